-- What the public calls claim: what records come to, of totals, of a writer and its notes, of a look, of glasses and
-- monitors, and of a publisher. Then the board's rule, and that of its history.
pub mod Folding
pub mod Totalling
pub mod Writers
pub mod Looking
pub mod Glasses
pub mod Monitors
pub mod Publishers
pub mod BoardRule
pub mod History
pub mod HistoryRule
