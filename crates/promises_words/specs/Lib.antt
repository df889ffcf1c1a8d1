pub mod Words
pub mod LedgerNumbers
