-- From place to place: a text leads to one place.
use Rattle.std.proofs.Common.{◌≡◌, ◌∙◌, ℕ, ◌+◌, ◌==◌, nat_lt, Bool, true, false, List, [], ◌∷◌, ◌++◌, length, map, Option, None, Some, refl, sym, ap, subst}
use Rattle.std.specs.Prelude.{if◌then◌else◌, IfSome}
use Rattle.std.specs.List.{AllByRecursion}
use Rattle.std.specs.Option.{option_map}
use Rattle.std.proofs.lemmas.Option.{same_Some}
use Rattle.join_base.specs.declared.message.Source.{Source}
use Rattle.script_types.specs.declared.plan.Plan.{Plan}
use Rattle.fair_semantics.specs.declared.run.ActorRun.{ActorRun}
use Rattle.fair_semantics.specs.declared.run.Entry.{Entry}
use Rattle.fair_semantics.specs.Fits.{source_place}
use Rattle.log_lines.specs.declared.line.Head.{Head}
use Rattle.log_lines.specs.declared.line.LogLine.{LogLine}
use Rattle.log_lines.specs.declared.line.LogLine.TheVariants as line
use Rattle.log_lines.specs.Gives.{◌>>=◌, where_true}
use Rattle.script_types.specs.Typed.{IsTyped}
use Rattle.log_lines.specs.Forms.{HeadFits, IsLine, LineFits}
use Rattle.log_lines.proofs.ExactLemmas.{first_found, texts_are_one_line}
use Rattle.log_lines.proofs.FormLemmas.{body, body_is}
use Rattle.log_reader.specs.declared.draft.Draft.{Draft}
use Rattle.log_reader.specs.declared.draft.Open.{Open}
use Rattle.log_reader.specs.declared.draft.Open.TheVariants.{Heading, Entries, Arrived, Fired, Lates}
use Rattle.log_reader.specs.Draft.{step}
use Rattle.log_reader.specs.Places.{Place, Spot, start, within, finish, heading, entries, arrived, fired, lates, Lead, MayStand, behind, section}
use Rattle.log_reader.proofs.AgainLemmas.{steps}
use Rattle.log_reader.proofs.ShownLemmas.{draft_at}
use Rattle.log_reader.proofs.StepLemmas.{behind_place, place_at, place_of, placed, step_place}

-- ---- the first line of a place

-- the place is of a log with this first line
abbrev pub IsOf : Head → Place → Type 0
IsOf head start = ⊥
IsOf head (within other actor spot) = other ≡ head
IsOf head finish = Unit {0}

section_of : (head : Head) (actor : ℕ) (b : Bool) → IsOf head (if b then within head actor heading else finish)
section_of head actor true = refl
section_of head actor false = tt

place_is_of : (plan : Plan) (head : Head) (actor : ℕ) (reached : Open) → IsOf head (place_at plan head actor reached)
place_is_of plan head actor Heading = section_of head actor (nat_lt actor (length plan.actors))
place_is_of plan head actor Entries = refl
place_is_of plan head actor (Arrived x) = refl
place_is_of plan head actor (Fired x f) = refl
place_is_of plan head actor (Lates last) = refl

-- a text that is a line may stand where the line leads on, and nowhere else
stands : (plan : Plan) (head : Head) (place : Place) (text : List ℕ) (l : LogLine) (next : Place) → IsOf head place → IsLine plan head text l → behind_place plan place l ≡ Some next → MayStand plan place text next
stands plan head start text l next of is leads = absurd of
stands plan head (within other actor spot) text l next of is leads = record { given = l; is = subst (λ (h : Head). IsLine plan h text l) (sym of) is; leads = leads }
stands plan head finish text l next of is leads = absurd cc

pub record StandsBy (plan : Plan) (head : Head) (place : Place) (text : List ℕ) (next : Place) : Type 0 where
  pub given : LogLine
  pub is : IsLine plan head text given
  pub leads : behind_place plan place given ≡ Some next

stood : (plan : Plan) (head : Head) (place : Place) (text : List ℕ) (next : Place) → IsOf head place → MayStand plan place text next → StandsBy plan head place text next
stood plan head start text next of may = absurd of
stood plan head (within other actor spot) text next of may = record { given = may.given; is = subst (λ (h : Head). IsLine plan h text may.given) of may.is; leads = may.leads }
stood plan head finish text next of may = absurd may

-- ---- drafts and places

map_keeps : {X Y : Type 0} (f g : X → Y) (b : Bool) (x : X) → f x ≡ g x → option_map f (where_true b (Some x)) ≡ option_map g (where_true b (Some x))
map_keeps f g true x is = ap (λ y. Some y) is
map_keeps f g false x is = refl

module _ (head : Head) (actors : List ActorRun) (es : List Entry) (lts : List (Source × ℕ)) where
  step_keeps : (reached : Open) (l : LogLine) → option_map (λ (d : Draft). d.head) (step (draft_at head actors es lts reached) l) ≡ option_map (λ (d : Draft). head) (step (draft_at head actors es lts reached) l)
  step_keeps Heading (line.Heading number) = map_keeps (λ (d : Draft). d.head) (λ (d : Draft). head) (number == length actors) _ refl
  step_keeps (Lates last) (line.IsLate source count) = map_keeps (λ (d : Draft). d.head) (λ (d : Draft). head) (nat_lt (source_place head.feeds last) (source_place head.feeds source)) _ refl
  step_keeps Heading l = refl
  step_keeps Entries (line.Heading number) = refl
  step_keeps Entries l = refl
  step_keeps (Arrived x) (line.Heading number) = refl
  step_keeps (Arrived x) l = refl
  step_keeps (Fired x f) (line.Heading number) = refl
  step_keeps (Fired x f) l = refl
  step_keeps (Lates last) l = refl

-- a step keeps the first line
pub step_head : (draft : Draft) (l : LogLine) (next : Draft) → step draft l ≡ Some next → next.head ≡ draft.head
step_head draft l next is =
    let keeps = step_keeps draft.head draft.actors draft.entries draft.late draft.reached l in
    same_Some (next.head) (draft.head) (ap (option_map (λ (d : Draft). d.head)) (sym is) ∙ keeps ∙ ap (option_map (λ (d : Draft). draft.head)) is)

module _ (plan : Plan) where
  pub draft_of : (draft : Draft) → IsOf draft.head (place_of plan draft)
  draft_of draft = place_is_of plan draft.head (length draft.actors) draft.reached

  -- a step leads on
  pub step_leads : (draft : Draft) (text : List ℕ) (l : LogLine) (next : Draft) → IsLine plan draft.head text l → step draft l ≡ Some next → MayStand plan (place_of plan draft) text (place_of plan next)
  step_leads draft text l next is leads =
      stands plan draft.head (place_of plan draft) text l (place_of plan next) (draft_of draft) is
      (sym (step_place plan draft.head draft.actors draft.entries draft.late draft.reached l is.fits) ∙ ap (placed plan) leads)

  -- where no line that the text is leads on, it may not stand
  pub no_step : (draft : Draft) (text : List ℕ) (next : Place) → ((l : LogLine) → IsLine plan draft.head text l → step draft l ≡ None) → MayStand plan (place_of plan draft) text next → ⊥
  no_step draft text next none may =
      let by = stood plan draft.head (place_of plan draft) text next (draft_of draft) may in
      let found = sym (step_place plan draft.head draft.actors draft.entries draft.late draft.reached by.given by.is.fits) ∙ ap (placed plan) (none by.given by.is) in
      let leads = by.leads in
      absurd cc

  lead_by : (l : LogLine) (ls : List LogLine) (from to : Draft) (head : Head) → from.head ≡ head → LineFits plan head l → (found : Option Draft) → step from l ≡ found
      → ((next : Draft) → next.head ≡ head → steps next ls ≡ Some to → Lead plan (place_of plan next) (map (body plan head) ls) (place_of plan to))
      → (found >>= λ next. steps next ls) ≡ Some to → Lead plan (place_of plan from) (body plan head l ∷ map (body plan head) ls) (place_of plan to)
  lead_by l ls from to head same fits None told further is = absurd cc
  lead_by l ls from to head same fits (Some next) told further is =
      let here : IsLine plan from.head (body plan head l) l = subst (λ (h : Head). IsLine plan h (body plan head l) l) (sym same) (record { fits = fits; is = body_is plan head l }) in
      (place_of plan next, (step_leads from (body plan head l) l next here told, further next (step_head from l next told ∙ same) is))

  -- the lines that are read one after the other lead on
  pub steps_lead : (ls : List LogLine) (from to : Draft) (head : Head) → from.head ≡ head → AllByRecursion (LineFits plan head) ls → steps from ls ≡ Some to → Lead plan (place_of plan from) (map (body plan head) ls) (place_of plan to)
  steps_lead [] from to head same fits is = ap (place_of plan) (same_Some from to is)
  steps_lead (l ∷ ls) from to head same fits is = lead_by l ls from to head same fits.0 (step from l) refl (λ next kept. steps_lead ls next to head kept fits.1) is

-- ---- a text leads to one place

-- the first line of the place fits the plan
abbrev pub PlaceFits : Plan → Place → Type 0
PlaceFits plan start = Unit {0}
PlaceFits plan (within head actor spot) = HeadFits plan head
PlaceFits plan finish = Unit {0}

module _ (plan : Plan) (head : Head) (fits : HeadFits plan head) where
  section_fits : (actor : ℕ) (b : Bool) → PlaceFits plan (if b then within head actor heading else finish)
  section_fits actor true = fits
  section_fits actor false = tt

  some_if : (b : Bool) (place : Place) → PlaceFits plan place → IfSome (if b then Some place else None) (PlaceFits plan)
  some_if true place h = h
  some_if false place h = tt

  behind_fits : (actor : ℕ) (spot : Spot) (l : LogLine) → IfSome (behind plan head actor spot l) (PlaceFits plan)
  behind_fits actor heading (line.Heading number) = some_if (number == actor) (within head actor entries) fits
  behind_fits actor heading l = tt
  behind_fits actor (lates last) (line.IsLate source count) = some_if (nat_lt last (source_place head.feeds source)) (within head actor (lates (source_place head.feeds source))) fits
  behind_fits actor (lates last) (line.Ends ending left partials) = section_fits (actor + 1) (nat_lt (actor + 1) (length plan.actors))
  behind_fits actor (lates last) l = tt
  behind_fits actor entries (line.Heading number) = tt
  behind_fits actor entries (line.Arrives arrival) = fits
  behind_fits actor entries (line.Fires rule taken) = tt
  behind_fits actor entries (line.Does effect) = tt
  behind_fits actor entries (line.IsLate source count) = fits
  behind_fits actor entries (line.Ends ending left partials) = section_fits (actor + 1) (nat_lt (actor + 1) (length plan.actors))
  behind_fits actor arrived (line.Heading number) = tt
  behind_fits actor arrived (line.Arrives arrival) = fits
  behind_fits actor arrived (line.Fires rule taken) = fits
  behind_fits actor arrived (line.Does effect) = tt
  behind_fits actor arrived (line.IsLate source count) = fits
  behind_fits actor arrived (line.Ends ending left partials) = section_fits (actor + 1) (nat_lt (actor + 1) (length plan.actors))
  behind_fits actor fired (line.Heading number) = tt
  behind_fits actor fired (line.Arrives arrival) = fits
  behind_fits actor fired (line.Fires rule taken) = tt
  behind_fits actor fired (line.Does effect) = fits
  behind_fits actor fired (line.IsLate source count) = fits
  behind_fits actor fired (line.Ends ending left partials) = section_fits (actor + 1) (nat_lt (actor + 1) (length plan.actors))

module _ (plan : Plan) (typed : IsTyped plan) where
  pub may_fit : (place : Place) (text : List ℕ) (next : Place) → PlaceFits plan place → MayStand plan place text next → PlaceFits plan next
  may_fit start text next fits may = subst (PlaceFits plan) may.leads (section_fits plan may.head may.is.fits 0 (nat_lt 0 (length plan.actors)))
  may_fit (within head actor spot) text next fits may =
      let P : Option Place → Type 0 = λ o. IfSome o (PlaceFits plan) in
      subst P may.leads (behind_fits plan head fits actor spot may.given)
  may_fit finish text next fits may = absurd may

  pub one_next : (place : Place) (text : List ℕ) (a b : Place) → PlaceFits plan place → MayStand plan place text a → MayStand plan place text b → a ≡ b
  one_next start text a b fits one other =
      let same : one.head ≡ other.head = same_Some one.head other.head (sym (first_found plan text one.head one.is) ∙ first_found plan text other.head other.is) in
      sym one.leads ∙ ap (λ (h : Head). section plan h 0) same ∙ other.leads
  one_next (within head actor spot) text a b fits one other =
      let same : one.given ≡ other.given = texts_are_one_line plan head text one.given other.given typed fits one.is other.is in
      same_Some a b (sym one.leads ∙ ap (behind plan head actor spot) same ∙ other.leads)
  one_next finish text a b fits one other = absurd one

  -- texts that lead on lead on behind a beginning of them
  pub lead_split : (xs ys : List (List ℕ)) (from to mid : Place) → PlaceFits plan from → Lead plan from (xs ++ ys) to → Lead plan from xs mid → Lead plan mid ys to
  lead_split [] ys from to mid fits all front = subst (λ (p : Place). Lead plan p ys to) front all
  lead_split (x ∷ xs) ys from to mid fits all front =
      let same : all.0 ≡ front.0 = one_next from x (all.0) (front.0) fits (all.1.0) (front.1.0) in
      lead_split xs ys (front.0) to mid (may_fit from x (front.0) fits (front.1.0)) (subst (λ (p : Place). Lead plan p (xs ++ ys) to) same (all.1.1)) (front.1.1)
