pub mod ConvertCalls
