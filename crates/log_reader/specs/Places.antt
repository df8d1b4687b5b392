-- Where the lines of a log may stand, and the line at fault of bytes that are no log.
use Rattle.std.specs.Prelude.{◌≡◌, ℕ, ◌+◌, ◌==◌, nat_lt, List, [], ◌∷◌, ◌++◌, length, Option, None, Some, if◌then◌else◌}
use Rattle.std.specs.List.{slice_split}
use Rattle.script_types.specs.declared.plan.Plan.{Plan}
use Rattle.fair_semantics.specs.Fits.{source_place}
use Rattle.log_lines.specs.declared.line.Head.{Head}
use Rattle.log_lines.specs.declared.line.LogLine.{LogLine}
use Rattle.log_lines.specs.declared.line.LogLine.TheVariants.{Heading, Arrives, Fires, Does, IsLate, Ends}
use Rattle.log_lines.specs.Forms.{IsHead, IsLine}

-- within the section of an actor: at its heading, among its entries, behind an arrival, behind a firing, or behind
-- the late line of a source
pub data Spot : Type 0 where
  heading : Spot
  entries : Spot
  arrived : Spot
  fired : Spot
  lates : (last : ℕ) → Spot

pub data Place : Type 0 where
  start : Place
  within : (head : Head) (actor : ℕ) (spot : Spot) → Place
  finish : Place

-- the heading of the next actor, or the finish behind the last
abbrev pub section : Plan → Head → ℕ → Place
section plan head actor = if nat_lt actor (length plan.actors) then within head actor heading else finish

-- the place behind a line that may stand among the entries
abbrev pub among_entries : Plan → Head → ℕ → LogLine → Option Place
among_entries plan head actor (Heading number) = None
among_entries plan head actor (Arrives arrival) = Some (within head actor arrived)
among_entries plan head actor (Fires rule taken) = None
among_entries plan head actor (Does effect) = None
among_entries plan head actor (IsLate source count) = Some (within head actor (lates (source_place head.feeds source)))
among_entries plan head actor (Ends ending left partials) = Some (section plan head (actor + 1))

abbrev pub at_heading : Head → ℕ → LogLine → Option Place
at_heading head actor (Heading number) = if number == actor then Some (within head actor entries) else None
at_heading head actor _ = None

-- a firing, or every line of the entries
abbrev pub behind_arrival : Plan → Head → ℕ → LogLine → Option Place
behind_arrival plan head actor (Fires rule taken) = Some (within head actor fired)
behind_arrival plan head actor given = among_entries plan head actor given

-- an effect, or every line of the entries
abbrev pub behind_firing : Plan → Head → ℕ → LogLine → Option Place
behind_firing plan head actor (Does effect) = Some (within head actor fired)
behind_firing plan head actor given = among_entries plan head actor given

-- the late line of a later source, or the end
abbrev pub behind_late : Plan → Head → ℕ → ℕ → LogLine → Option Place
behind_late plan head actor last (IsLate source count) =
    if nat_lt last (source_place head.feeds source) then Some (within head actor (lates (source_place head.feeds source))) else None
behind_late plan head actor last (Ends ending left partials) = Some (section plan head (actor + 1))
behind_late plan head actor last _ = None

-- the place behind a line that may stand at a spot
abbrev pub behind : Plan → Head → ℕ → Spot → LogLine → Option Place
behind plan head actor heading given = at_heading head actor given
behind plan head actor entries given = among_entries plan head actor given
behind plan head actor arrived given = behind_arrival plan head actor given
behind plan head actor fired given = behind_firing plan head actor given
behind plan head actor (lates last) given = behind_late plan head actor last given

-- the text may stand at a place, and leads to the next
pub record IsFirst (plan : Plan) (text : List ℕ) (next : Place) : Type 0 where
  pub head : Head
  pub is : IsHead plan text head
  pub leads : section plan head 0 ≡ next

pub record IsFurther (plan : Plan) (head : Head) (actor : ℕ) (spot : Spot) (text : List ℕ) (next : Place) : Type 0 where
  pub given : LogLine
  pub is : IsLine plan head text given
  pub leads : behind plan head actor spot given ≡ Some next

abbrev pub MayStand : Plan → Place → List ℕ → Place → Type 0
MayStand plan start text next = IsFirst plan text next
MayStand plan (within head actor spot) text next = IsFurther plan head actor spot text next
MayStand plan finish text next = ⊥

-- the texts stand one behind the other, from one place to another
abbrev pub Lead : Plan → Place → List (List ℕ) → Place → Type 0
Lead plan place [] to = place ≡ to
Lead plan place (text ∷ texts) to = (next : Place) × (MayStand plan place text next × Lead plan next texts to)

-- the first of the texts may not stand at the place, or there is none
abbrev pub MayNotStand : Plan → Place → List (List ℕ) → Type 0
MayNotStand plan place [] = Unit {0}
MayNotStand plan place (text ∷ texts) = (next : Place) → MayStand plan place text next → ⊥

-- ---- whole lines

abbrev pub all_but_last : {X : Type 0} → List X → List X
all_but_last [] = []
all_but_last (x ∷ []) = []
all_but_last (x ∷ y ∷ xs) = x ∷ all_but_last (y ∷ xs)

-- the lines that LF ends, each without it
abbrev pub whole_lines : List ℕ → List (List ℕ)
whole_lines bytes = all_but_last (slice_split (λ b. b == 10) bytes)

-- The number of the first whole line that may not stand at its place, from 1 on. Where every whole line may, it is one
-- more than their number.
pub record IsFaultLine (plan : Plan) (bytes : List ℕ) (number : ℕ) : Type 0 where
  pub before : List (List ℕ)
  pub others : List (List ℕ)
  pub lines : whole_lines bytes ≡ before ++ others
  pub counted : number ≡ length before + 1
  pub place : Place
  pub lead : Lead plan start before place
  pub refused : MayNotStand plan place others
