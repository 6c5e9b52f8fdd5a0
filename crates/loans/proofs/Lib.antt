pub mod Kind
pub mod Lent
pub mod Loan
