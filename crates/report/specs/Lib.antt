pub mod Findings
pub mod Lines
pub mod Tallies
pub mod Reports
pub mod Compared
