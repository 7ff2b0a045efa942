pub mod DirectoryGrounds
mod Inspected
