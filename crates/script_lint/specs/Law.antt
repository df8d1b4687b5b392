-- A definition with a finding never fires, and a message of an idle kind is never taken.
use Rattle.std.specs.Prelude.{◌≡◌, ℕ, List, Some, false, FitsSigned}
use Rattle.std.specs.Int.{w64}
use Rattle.std.specs.List.{AllByRecursion}
use Rattle.join_base.specs.declared.message.Value.{Value}
use Rattle.join_base.specs.declared.message.Value.TheVariants.{Int, Words}
use Rattle.join_base.specs.declared.message.Message.{Message}
use Rattle.guard_eval.specs.Meaning.{recorded_message}
use Rattle.pattern_core.specs.Matches.{is_of_kind}
use Rattle.pattern_core.specs.Members.{IsIn}
use Rattle.script_types.specs.declared.plan.Plan.{Plan}
use Rattle.fair_semantics.specs.declared.run.Limits.{Limits}
use Rattle.fair_semantics.specs.declared.run.Entry.{Entry}
use Rattle.fair_semantics.specs.declared.run.Firing.{Firing}
use Rattle.fair_semantics.specs.Fair.{Sent, fair}
use Rattle.fair_semantics.specs.Step.{recorded_messages}
use Rattle.script_lint.specs.declared.finding.Finding.{Finding}
use Rattle.script_lint.specs.declared.finding.Finding.TheVariants.{Dead, Narrow, Shadowed, Idle}
use Rattle.script_lint.specs.Findings.{findings}

-- the finding is one of the definition with this number of this actor
abbrev pub IsAbout : ℕ → ℕ → Finding → Type 0
IsAbout actor rule (Dead a r) = (a ≡ actor) × (r ≡ rule)
IsAbout actor rule (Narrow a r) = (a ≡ actor) × (r ≡ rule)
IsAbout actor rule (Shadowed a r by) = (a ≡ actor) × (r ≡ rule)
IsAbout actor rule (Idle kind) = ⊥

-- an integer of 64 bits, or any text
abbrev pub InRange : Value → Type 0
InRange (Int n) = FitsSigned w64 n
InRange (Words bytes) = Unit {0}

abbrev pub HasValuesInRange : Message → Type 0
HasValuesInRange message = AllByRecursion InRange message.fields

abbrev pub AreInRange : List Sent → Type 0
AreInRange sent = AllByRecursion (λ s. HasValuesInRange s.1.message) sent

-- whatever messages an actor is given, whose integers are of 64 bits, none of its arrivals fires a definition that has
-- a finding
abbrev pub FindingsNeverFire : Type 0
FindingsNeverFire = (plan : Plan) (actor : ℕ) (limits : Limits) (feeds : ℕ) (sent : List Sent) → AreInRange sent
    → (entry : Entry) → IsIn entry (fair plan actor limits feeds sent).entries → (firing : Firing) → entry.firing ≡ Some firing → (finding : Finding) → IsIn finding (findings plan) → ¬ IsAbout actor firing.rule finding

-- and none takes a message of an idle kind
abbrev pub IdleKindsAreNeverTaken : Type 0
IdleKindsAreNeverTaken = (plan : Plan) (actor : ℕ) (limits : Limits) (feeds : ℕ) (sent : List Sent) → AreInRange sent
    → (entry : Entry) → IsIn entry (fair plan actor limits feeds sent).entries → (firing : Firing) → entry.firing ≡ Some firing → (kind : ℕ) → IsIn (Idle kind) (findings plan)
    → (number : ℕ) → IsIn number firing.taken → is_of_kind (recorded_message (recorded_messages (fair plan actor limits feeds sent).entries) number) kind ≡ false
