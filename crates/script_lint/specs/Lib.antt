-- what the findings of a plan are, and that a definition with one never fires
pub mod Bounds
pub mod Same
pub mod Findings
pub mod Law
-- the findings actor by actor, and their text
pub mod Looked
pub mod LintText
