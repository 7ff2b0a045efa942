pub mod DirectoryElements
pub mod Lengths
pub mod RecordSizes
pub mod Records
pub mod Valid
pub mod WithdrawalElements
