-- What a line adds, against the places and the lines of a run.
use Rattle.std.proofs.Common.{◌≡◌, ◌∙◌, ℕ, ◌+◌, ◌<◌, ◌==◌, nat_lt, Bool, true, false, List, [], ◌∷◌, ◌++◌, length, Option, None, Some, refl, sym, ap, length-append, arith}
use Rattle.std.specs.Prelude.{if◌then◌else◌}
use Rattle.std.specs.Option.{option_map}
use Rattle.std.proofs.lemmas.Bool.{ltb-false, ne_eqb}
use Rattle.script_types.specs.declared.plan.Plan.{Plan}
use Rattle.join_base.specs.declared.message.Source.{Source}
use Rattle.fair_semantics.specs.declared.run.ActorRun.{ActorRun}
use Rattle.fair_semantics.specs.declared.run.Entry.{Entry}
use Rattle.fair_semantics.specs.Fits.{source_place}
use Rattle.log_lines.specs.declared.line.Head.{Head}
use Rattle.log_lines.specs.declared.line.LogLine.{LogLine}
use Rattle.log_lines.specs.declared.line.LogLine.TheVariants as line
use Rattle.log_lines.specs.Gives.{where_true}
use Rattle.log_lines.specs.Forms.{LineFits}
use Rattle.log_reader.specs.declared.draft.Draft.{Draft}
use Rattle.log_reader.specs.declared.draft.Open.{Open}
use Rattle.log_reader.specs.declared.draft.Open.TheVariants.{Heading, Entries, Arrived, Fired, Lates}
use Rattle.log_reader.specs.Draft.{step}
use Rattle.log_reader.specs.Places.{Place, start, within, finish, heading, entries, arrived, fired, lates, behind, section}

-- the place behind what was read
abbrev pub place_at : Plan → Head → ℕ → Open → Place
place_at plan head actor Heading = section plan head actor
place_at plan head actor Entries = within head actor entries
place_at plan head actor (Arrived arrival) = within head actor arrived
place_at plan head actor (Fired arrival firing) = within head actor fired
place_at plan head actor (Lates last) = within head actor (lates (source_place head.feeds last))

abbrev pub place_of : Plan → Draft → Place
place_of plan draft = place_at plan draft.head (length draft.actors) draft.reached

-- the place behind a line at a place
abbrev pub behind_place : Plan → Place → LogLine → Option Place
behind_place plan start given = None
behind_place plan (within head actor spot) given = behind plan head actor spot given
behind_place plan finish given = None

abbrev pub is_heading : LogLine → Bool
is_heading (line.Heading number) = true
is_heading _ = false

map_where : {X Y : Type 0} (f : X → Y) (b : Bool) (x : X) → option_map f (where_true b (Some x)) ≡ where_true b (Some (f x))
map_where f true x = refl
map_where f false x = refl

length_more : {X : Type 0} (xs : List X) (x : X) → length (xs ++ x ∷ []) ≡ length xs + 1
length_more xs x = length-append xs (x ∷ [])

module _ (plan : Plan) where
  abbrev pub placed : Option Draft → Option Place
  placed found = option_map (place_of plan) found

  -- only a heading stands at a heading
  none_at : (head : Head) (actor : ℕ) (b : Bool) (l : LogLine) → is_heading l ≡ false → behind_place plan (if b then within head actor heading else finish) l ≡ None
  none_at head actor true (line.Heading number) other = absurd cc
  none_at head actor true (line.Arrives arrival) other = refl
  none_at head actor true (line.Fires rule taken) other = refl
  none_at head actor true (line.Does effect) other = refl
  none_at head actor true (line.IsLate source count) other = refl
  none_at head actor true (line.Ends ending left partials) other = refl
  none_at head actor false l other = refl

  begun_at : (head : Head) (actor number : ℕ) (draft : Draft) (b : Bool) → nat_lt actor (length plan.actors) ≡ b → number < length plan.actors
      → where_true (number == actor) (Some (within head actor entries)) ≡ behind_place plan (if b then within head actor heading else finish) (line.Heading number)
  begun_at head actor number draft true is fits = refl
  begun_at head actor number draft false is fits =
      let past = ltb-false actor (length plan.actors) is in
      ap (λ (t : Bool). where_true t (Some (within head actor entries))) (ne_eqb number actor (λ e. omega arith))

  module _ (head : Head) (actors : List ActorRun) (es : List Entry) (lts : List (Source × ℕ)) where
    abbrev pub draft_at : Open → Draft
    draft_at reached = record { head = head; actors = actors; entries = es; late = lts; reached = reached }

    begins_place : (number : ℕ) → number < length plan.actors → placed (step (draft_at Heading) (line.Heading number)) ≡ behind_place plan (section plan head (length actors)) (line.Heading number)
    begins_place number fits =
        map_where (place_of plan) (number == length actors) (draft_at Entries)
        ∙ begun_at head (length actors) number (draft_at Heading) (nat_lt (length actors) (length plan.actors)) refl fits

    ends_place : (run : ActorRun) → section plan head (length (actors ++ run ∷ [])) ≡ section plan head (length actors + 1)
    ends_place run = ap (section plan head) (length_more actors run)

    pub step_place : (reached : Open) (l : LogLine) → LineFits plan head l → placed (step (draft_at reached) l) ≡ behind_place plan (place_at plan head (length actors) reached) l
    step_place Heading (line.Heading number) fits = begins_place number fits
    step_place Heading (line.Arrives arrival) fits = sym (none_at head (length actors) (nat_lt (length actors) (length plan.actors)) (line.Arrives arrival) refl)
    step_place Heading (line.Fires rule taken) fits = sym (none_at head (length actors) (nat_lt (length actors) (length plan.actors)) (line.Fires rule taken) refl)
    step_place Heading (line.Does effect) fits = sym (none_at head (length actors) (nat_lt (length actors) (length plan.actors)) (line.Does effect) refl)
    step_place Heading (line.IsLate source count) fits = sym (none_at head (length actors) (nat_lt (length actors) (length plan.actors)) (line.IsLate source count) refl)
    step_place Heading (line.Ends ending left partials) fits = sym (none_at head (length actors) (nat_lt (length actors) (length plan.actors)) (line.Ends ending left partials) refl)
    step_place Entries (line.Ends ending left partials) fits = ap (λ p. Some p) (ends_place _)
    step_place (Arrived arrival) (line.Ends ending left partials) fits = ap (λ p. Some p) (ends_place _)
    step_place (Fired arrival firing) (line.Ends ending left partials) fits = ap (λ p. Some p) (ends_place _)
    step_place (Lates last) (line.Ends ending left partials) fits = ap (λ p. Some p) (ends_place _)
    step_place (Lates last) (line.IsLate source count) fits = map_where (place_of plan) (nat_lt (source_place head.feeds last) (source_place head.feeds source)) _
    step_place Entries l fits = refl
    step_place (Arrived arrival) l fits = refl
    step_place (Fired arrival firing) l fits = refl
    step_place (Lates last) l fits = refl
