pub mod MadeLaws
pub mod ScanLaws
