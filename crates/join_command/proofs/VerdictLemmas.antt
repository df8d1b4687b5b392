-- Words and files have one verdict.
use Rattle.std.proofs.Common.{◌≡◌, inl, inr, ℕ, ◌+◌, Bool, true, false, List, Option, None, Some, refl, sym, ap, ◌∙◌, subst, arith}
use Rattle.std.specs.Prelude.{Result, Ok, Err, nat_lt}
use Rattle.std.proofs.lemmas.Bool.Decides.{nat_tests}
use Rattle.join_base.specs.Outside.{Files}
use Rattle.script_types.specs.declared.plan.Plan.{Plan}
use Rattle.script_types.specs.Typed.{IsTyped}
use Rattle.plan_text.specs.PlanText.{plan_text}
use Rattle.script_lint.specs.LintText.{lint_text}
use Rattle.fair_semantics.specs.declared.run.Run.{Run as WholeRun}
use Rattle.log_reader.specs.Log.{FaultsAreOneLine, LogsAreOneRun}
use Rattle.log_replay.specs.Check.{Checks as LogChecks, arrival_count}
use Rattle.log_replay.specs.Fault.{IsFirstInFault, IsRight}
use Rattle.log_replay.specs.declared.refusal.LogRefusal.{LogRefusal}
use Rattle.log_replay.specs.declared.refusal.LogRefusal.TheVariants as refusal
use Rattle.script_files.specs.declared.stop.LogCause.TheVariants as log_cause
use Rattle.script_check.specs.Script.{NoPlanAndFault, OneScriptFault, OneScriptPlan}
use Rattle.command_words.specs.Command.{Command, RunWords, Run, Check, Replay, Load, Watch, Lint, Ask}
use Rattle.join_command.specs.Command.{command_of}
use Rattle.script_files.specs.Files.{File, Absent, Long, Holds, file_of, log_of}
use Rattle.script_files.specs.Verdict.{Verdict, Accepts, Checks, Lints, LogRefused, ScriptRefused, Runs, Asks, Watches, OfScript, ScriptGives, ScriptStops, feeds_answer}
use Rattle.join_command.specs.Verdict.{OfLog, checked_as, OfCommand, OfRun, Outcome, OfWords, OneVerdict, limits_of, run_of}

-- a script has one plan or one fault, and a log is that of one run or has one line at fault
pub record HaveOneAnswer : Type 0 where
  pub plan : OneScriptPlan
  pub no_plan : NoPlanAndFault
  pub fault : OneScriptFault
  pub log_run : LogsAreOneRun
  pub log_fault : FaultsAreOneLine

-- a run has one first line in fault
first_once : (plan : Plan) (run : WholeRun) (m n : ℕ) → IsFirstInFault plan run m → IsFirstInFault plan run n → m ≡ n
first_once plan run m n a b = by_places (nat_lt a.place b.place) refl (nat_lt b.place a.place) refl
  where
    by_places : (x : Bool) → nat_lt a.place b.place ≡ x → (y : Bool) → nat_lt b.place a.place ≡ y → m ≡ n
    by_places true less y is = absurd (a.wrong (b.before a.place (grind (arith, nat_tests))))
    by_places false less true more = absurd (b.wrong (a.before b.place (grind (arith, nat_tests))))
    by_places false less false more = let same : a.place ≡ b.place = grind (arith, nat_tests) in a.counted ∙ ap (λ (p : ℕ). p + 1) same ∙ sym b.counted

module _ (one : HaveOneAnswer) where
  same_stop : (script : File) (v w : Verdict) → ScriptStops script v → ScriptStops script w → v ≡ w
  same_stop Absent v w a b = absurd a
  same_stop Long v w a b = a ∙ sym b
  same_stop (Holds bytes) v w (place, cause, fault, is) (place', cause', fault', is') =
      let same = one.fault bytes place place' cause cause' fault fault' in
      is ∙ (λ i. ScriptRefused (same.0 i) (same.1 i)) ∙ sym is'

  no_plan : (script : File) (plan : Plan) (v : Verdict) → ScriptGives script plan → ScriptStops script v → ⊥
  no_plan Absent plan v gives stops = absurd gives
  no_plan Long plan v gives stops = absurd gives
  no_plan (Holds bytes) plan v gives (place, cause, fault, is) = one.no_plan bytes plan place cause gives fault

  plan_again : (script : File) (plan other : Plan) → ScriptGives script plan → ScriptGives script other → plan ≡ other
  plan_again Absent plan other a b = absurd a
  plan_again Long plan other a b = absurd a
  plan_again (Holds bytes) plan other a b = one.plan bytes plan other a b

  script_once : (script : File) (of_plan : Plan → Verdict → Type 0) → ((plan : Plan) (v w : Verdict) → of_plan plan v → of_plan plan w → v ≡ w)
      → (v w : Verdict) → OfScript script of_plan v → OfScript script of_plan w → v ≡ w
  script_once script of_plan once v w (inl a) (inl b) = same_stop script v w a b
  script_once script of_plan once v w (inl a) (inr b) = absurd (no_plan script b.0 v b.1 a)
  script_once script of_plan once v w (inr a) (inl b) = absurd (no_plan script a.0 w a.1 b)
  script_once script of_plan once v w (inr a) (inr b) =
      let P : Plan → Type 0 = λ (plan : Plan). of_plan plan w in
      once a.0 v w a.2 (subst P (plan_again script b.0 a.0 b.1 a.1) b.2)

  same_some : (o : Option Verdict) (v w : Verdict) → o ≡ Some v → o ≡ Some w → v ≡ w
  same_some o v w a b = let e : Some v ≡ Some w = sym a ∙ b in cc

  -- ---- a log

  module _ (plan : Plan) (bytes : List ℕ) (typed : IsTyped plan) where
    same_check : (r s : Result ℕ LogRefusal) (v w : Verdict) → LogChecks plan bytes r → LogChecks plan bytes s → checked_as r ≡ Some v → checked_as s ≡ Some w → checked_as r ≡ checked_as s
    same_check (Ok m) (Ok n) v w a b x y =
        ap (λ (count : ℕ). Some (Accepts count)) (a.counted ∙ ap arrival_count (one.log_run plan bytes a.run b.run typed a.log b.log) ∙ sym b.counted)
    same_check (Ok m) (Err (refusal.Bad n)) v w a b x y = absurd (b.0 a.run a.log)
    same_check (Ok m) (Err (refusal.Differs n)) v w a b x y =
        let P : WholeRun → Type 0 = λ (run : WholeRun). IsRight plan run b.first.place in
        absurd (b.first.wrong (subst P (one.log_run plan bytes a.run b.run typed a.log b.log) (a.accepted b.first.place)))
    same_check (Err (refusal.Bad m)) (Ok n) v w a b x y = absurd (a.0 b.run b.log)
    same_check (Err (refusal.Bad m)) (Err (refusal.Bad n)) v w a b x y = ap (λ (line : ℕ). Some (LogRefused line log_cause.Bad)) (one.log_fault plan bytes m n typed a.1 b.1)
    same_check (Err (refusal.Bad m)) (Err (refusal.Differs n)) v w a b x y = absurd (a.0 b.run b.log)
    same_check (Err (refusal.Differs m)) (Ok n) v w a b x y =
        let P : WholeRun → Type 0 = λ (run : WholeRun). IsRight plan run a.first.place in
        absurd (a.first.wrong (subst P (one.log_run plan bytes b.run a.run typed b.log a.log) (b.accepted a.first.place)))
    same_check (Err (refusal.Differs m)) (Err (refusal.Bad n)) v w a b x y = absurd (b.0 a.run a.log)
    same_check (Err (refusal.Differs m)) (Err (refusal.Differs n)) v w a b x y =
        let P : WholeRun → Type 0 = λ (run : WholeRun). IsFirstInFault plan run m in
        ap (λ (line : ℕ). Some (LogRefused line log_cause.Differs)) (first_once plan b.run m n (subst P (one.log_run plan bytes a.run b.run typed a.log b.log) a.first) b.first)
    same_check (Err refusal.NoMemory) s v w a b x y = absurd cc
    same_check r (Err refusal.NoMemory) v w a b x y = absurd cc

  log_once : (plan : Plan) → IsTyped plan → (file : File) (v w : Verdict) → OfLog plan file v → OfLog plan file w → v ≡ w
  log_once plan typed Absent v w a b = absurd a
  log_once plan typed Long v w a b = a ∙ sym b
  log_once plan typed (Holds bytes) v w (r, checks, is) (s, checked, same) = same_some (checked_as r) v w is (same_check plan bytes typed r s v w checks checked is same ∙ same)

  run_once : (files : Files) (outcome : Outcome) (run : RunWords) (v w : Verdict) → OfRun outcome files run v → OfRun outcome files run w → v ≡ w
  run_once files outcome run v w a b =
      script_once (file_of files run.script) (λ plan verdict. run_of outcome plan (limits_of run.options) (feeds_answer files plan 1 run.feeds) ≡ Some verdict)
      (λ plan one other x y. same_some (run_of outcome plan (limits_of run.options) (feeds_answer files plan 1 run.feeds)) one other x y) v w a b

  command_once : (files : Files) (command : Command) (v w : Verdict) → OfCommand files command v → OfCommand files command w → v ≡ w
  command_once files (Run run) v w a b =
      run_once files Runs run v w a b
  command_once files (Check script) v w a b = script_once (file_of files script) (λ plan verdict. verdict ≡ Checks (plan_text plan)) (λ plan one other x y. x ∙ sym y) v w a b
  command_once files (Replay script log) v w a b =
      script_once (file_of files script) (λ plan verdict. IsTyped plan × OfLog plan (log_of files log) verdict) (λ plan first other x y. log_once plan x.0 (log_of files log) first other x.1 y.1) v w a b
  command_once files (Load rows) v w a b = a ∙ sym b
  command_once files (Lint script) v w a b = script_once (file_of files script) (λ plan verdict. verdict ≡ Lints (lint_text plan)) (λ plan one other x y. x ∙ sym y) v w a b
  command_once files (Ask run) v w a b = run_once files Asks run v w a b
  command_once files (Watch run monitors) v w a b = run_once files Watches run v w a b

  words_once : (files : Files) (command : Option Command) (v w : Verdict) → OfWords files command v → OfWords files command w → v ≡ w
  words_once files None v w a b = a ∙ sym b
  words_once files (Some command) v w a b = command_once files command v w a b

  pub one_verdict : OneVerdict
  one_verdict words files v w a b = words_once files (command_of words) v w a b
