-- Laws about the definitions, each cited by the functions that read the lines.
pub mod Digits
pub mod Prefixes
pub mod FieldsOf
