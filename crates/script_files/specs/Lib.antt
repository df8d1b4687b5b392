-- what `load_script`, `load_plan_text`, `load_lint_text` and `load_feeds` claim
pub mod Files
pub mod Verdict
pub mod Loading
