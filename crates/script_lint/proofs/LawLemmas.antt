-- No choice is one of a definition with a finding, and none takes a message of an idle kind.
use Rattle.std.proofs.Common.{◌≡◌, ◌∙◌, inl, inr, ℕ, zero, suc, ◌+◌, ◌<◌, ◌≤◌, List, [], ◌∷◌, ◌++◌, length, length-append, append_assoc, Bool, true, false, Option, None, Some, slice_get, refl, ap, sym, subst, arith}
use Rattle.std.specs.Prelude.{IfSome, if◌then◌else◌, ◌==◌}
use Rattle.std.specs.Option.{option_map}
use Rattle.std.specs.List.{AllByRecursion}
use Rattle.std.specs.Ordering.{is_gt}
use Rattle.std.proofs.lemmas.Bool.Decides.{nat_tests}
use Rattle.std.proofs.lemmas.List.{append-nil}
use Rattle.std.proofs.lemmas.Bool.{or_parts}
use Rattle.join_base.specs.Taken.{contains_number}
use Rattle.join_base.specs.declared.message.Message.{Message}
use Rattle.guard_eval.specs.Meaning.{recorded_message}
use Rattle.pattern_core.specs.declared.candidate.Candidate.{Candidate}
use Rattle.pattern_core.specs.declared.definition.Definition.{Definition}
use Rattle.pattern_core.specs.Assigns.{Assigns}
use Rattle.pattern_core.specs.Choice.{IsChosen, IsMatch, NumberedFrom, slots_of}
use Rattle.pattern_core.specs.Key.{key_cmp}
use Rattle.pattern_core.specs.Matches.{is_of_kind, makes_all_true}
use Rattle.pattern_core.specs.Members.{IsIn}
use Rattle.pattern_core.specs.Window.{seen_of}
use Rattle.pattern_core.proofs.LawLemmas.{choice_is_chosen}
use Rattle.pattern_core.proofs.MembersLemmas.{IsIn-append_cases, IsIn-append_left, IsIn-append_right}
use Rattle.script_types.specs.declared.plan.ActorPlan.{ActorPlan}
use Rattle.script_types.specs.declared.plan.Kind.{Kind}
use Rattle.script_types.specs.declared.plan.Plan.{Plan}
use Rattle.script_types.specs.declared.plan.Rule.{Rule}
use Rattle.fair_semantics.specs.declared.run.Entry.{Entry}
use Rattle.fair_semantics.specs.declared.run.Firing.{Firing}
use Rattle.fair_semantics.specs.declared.run.Limits.{Limits}
use Rattle.fair_semantics.specs.Fair.{Sent, fair, rules_of, setting_of}
use Rattle.fair_semantics.specs.Step.{definitions_of, recorded_messages, opening}
use Rattle.fair_semantics.proofs.ListLemmas.{each_in, each_left}
use Rattle.script_lint.specs.declared.finding.Finding.{Finding}
use Rattle.script_lint.specs.declared.finding.Finding.TheVariants.{Dead, Narrow, Shadowed, Idle}
use Rattle.script_lint.specs.Findings.{finding_of, findings, findings_behind, findings_from, first_shadow, idle_from, is_dead, is_narrow, kinds_behind, kinds_from, kinds_of, listed}
use Rattle.script_lint.specs.Law.{AreInRange, FindingsNeverFire, HasValuesInRange, IdleKindsAreNeverTaken, IsAbout}
use Rattle.script_lint.proofs.DeadLemmas.{dead_is_false, not_both}
use Rattle.script_lint.proofs.FiredLemmas.{Fired, all_sound}
use Rattle.script_lint.proofs.NarrowLemmas.{narrow_has_none}
use Rattle.script_lint.proofs.ShadowLemmas.{also_matches, later_is_greater, shadow_of}

-- ---- the number of a definition and its place

numbered_above : (from : ℕ) (ds : List Definition) (n : ℕ) (d : Definition) → NumberedFrom from ds n d → from ≤ n
numbered_above from [] n d h = absurd h
numbered_above from (first ∷ ds) n d (inl e) = let same = e.0 in omega (arith, same)
numbered_above from (first ∷ ds) n d (inr h) = let later = numbered_above (from + 1) ds n d h in omega (arith, later)

numbered_is : (from : ℕ) (earlier : List Rule) (rule : Rule) (later : List Rule) (n : ℕ) (d : Definition) → n ≡ from + length earlier → NumberedFrom from (definitions_of (earlier ++ rule ∷ later)) n d → rule.definition ≡ d
numbered_is from [] rule later n d e (inl h) = h.1
numbered_is from [] rule later n d e (inr h) = absurd (omega (arith, e, numbered_above (from + 1) (definitions_of later) n d h))
numbered_is from (first ∷ earlier) rule later n d e (inl h) = let same = h.0 in absurd (omega (arith, same, e))
numbered_is from (first ∷ earlier) rule later n d e (inr h) = numbered_is (from + 1) earlier rule later n d (omega (arith, e)) h

numbered : (from : ℕ) (earlier : List Rule) (rule : Rule) (later : List Rule) (n : ℕ) → n ≡ from + length earlier → NumberedFrom from (definitions_of (earlier ++ rule ∷ later)) n rule.definition
numbered from [] rule later n e = inl (omega (arith, e), refl)
numbered from (first ∷ earlier) rule later n e = inr (numbered (from + 1) earlier rule later n (omega (arith, e)))

-- a rule of an actor, between those before it and those behind it
pub record Placed (rules : List Rule) (number : ℕ) : Type 0 where
  pub earlier : List Rule
  pub rule : Rule
  pub later : List Rule
  pub are : earlier ++ rule ∷ later ≡ rules
  pub number_is : number ≡ 1 + length earlier

placed : (rules front : List Rule) (n : ℕ) (d : Definition) → NumberedFrom (1 + length front) (definitions_of rules) n d → Placed (front ++ rules) n
placed [] front n d h = absurd h
placed (rule ∷ rules) front n d (inl e) = let same = e.0 in record { earlier = front; rule = rule; later = rules; are = refl; number_is = sym same }
placed (rule ∷ rules) front n d (inr h) =
    let longer : List Rule = front ++ rule ∷ [] in
    let count : 1 + length front + 1 ≡ 1 + length longer = omega (arith, length-append front (rule ∷ [])) in
    let Numbered : ℕ → Type 0 = λ k. NumberedFrom k (definitions_of rules) n d in
    let p = placed rules longer n d (subst Numbered count h) in
    record { earlier = p.earlier; rule = p.rule; later = p.later; are = p.are ∙ append_assoc front (rule ∷ []) rules; number_is = p.number_is }

-- ---- the choice is of no definition with a finding

module _ (messages : List Message) (live : List ℕ) (values : AllByRecursion HasValuesInRange messages) (earlier : List Rule) (rule : Rule) (later : List Rule) (c : Candidate) (number : c.rule ≡ 1 + length earlier) where
  module _ (chosen : IsChosen messages live (definitions_of (earlier ++ rule ∷ later)) (Some c)) where
    is_it : rule.definition ≡ chosen.0.definition
    is_it = numbered_is 1 earlier rule later c.rule chosen.0.definition number chosen.0.numbered

    assigned : Assigns messages (seen_of rule.definition (length messages) live) rule.definition.patterns (slots_of c.taken)
    assigned = let At : Definition → Type 0 = λ x. Assigns messages (seen_of x (length messages) live) x.patterns (slots_of c.taken) in subst At (sym is_it) chosen.0.assigns

    guarded : makes_all_true messages rule.definition.conjuncts (slots_of c.taken) ≡ true
    guarded = let At : Definition → Type 0 = λ x. makes_all_true messages x.conjuncts (slots_of c.taken) ≡ true in subst At (sym is_it) chosen.0.true_guard

    not_shadowed : (by : ℕ) → first_shadow 1 earlier rule.definition ≡ Some by → ⊥
    not_shadowed by e =
        let s = shadow_of 1 earlier rule.definition by e in
        let also = also_matches messages live s.rule.definition rule.definition c.taken values s.shadow assigned guarded in
        let other : Candidate = record { rule = by; taken = c.taken } in
        let whole : s.front ++ s.rule ∷ (s.back ++ rule ∷ later) ≡ earlier ++ rule ∷ later = sym (append_assoc s.front (s.rule ∷ s.back) (rule ∷ later)) ∙ ap (λ (rs : List Rule). rs ++ rule ∷ later) s.are in
        let Numbered : List Rule → Type 0 = λ rs. NumberedFrom 1 (definitions_of rs) by s.rule.definition in
        let match : IsMatch messages live (definitions_of (earlier ++ rule ∷ later)) other = record {
          definition = s.rule.definition;
          numbered = subst Numbered whole (numbered 1 s.front s.rule (s.back ++ rule ∷ later) by s.number);
          assigns = also.assigns;
          true_guard = also.true_guard;
        }
        in
        let count : length s.front + length (s.rule ∷ s.back) ≡ length earlier = sym (length-append s.front (s.rule ∷ s.back)) ∙ ap length s.are in
        let place = s.number in
        let below : by < c.rule = omega (arith, place, count, number) in
        not_both (is_gt (key_cmp c other)) (later_is_greater by c.rule c.taken below) (chosen.1 other match)

    pub no_finding : (actor : ℕ) (o : Option Finding) → finding_of actor earlier rule.definition ≡ o → o ≡ None
    no_finding actor o e = sym e ∙ by_dead (is_dead rule.definition) refl
      where
        shadow : (s : Option ℕ) → first_shadow 1 earlier rule.definition ≡ s → option_map (Shadowed actor (length earlier + 1)) s ≡ None
        shadow None f = refl
        shadow (Some by) f = absurd (not_shadowed by f)

        by_narrow : (b : Bool) → is_narrow rule.definition ≡ b → (if b then Some (Narrow actor (length earlier + 1)) else option_map (Shadowed actor (length earlier + 1)) (first_shadow 1 earlier rule.definition)) ≡ None
        by_narrow true f = absurd (narrow_has_none messages live rule.definition c.taken assigned f)
        by_narrow false f = shadow (first_shadow 1 earlier rule.definition) refl

        by_dead : (b : Bool) → is_dead rule.definition ≡ b
            → (if b then Some (Dead actor (length earlier + 1)) else if is_narrow rule.definition then Some (Narrow actor (length earlier + 1)) else option_map (Shadowed actor (length earlier + 1)) (first_shadow 1 earlier rule.definition)) ≡ None
        by_dead true f = absurd (dead_is_false messages (slots_of c.taken) rule.definition values guarded f)
        by_dead false f = by_narrow (is_narrow rule.definition) refl

-- ---- the finding that is listed

-- the rule that a listed finding is of
record Listed (actor : ℕ) (rules : List Rule) (finding : Finding) : Type 0 where
  earlier : List Rule
  rule : Rule
  later : List Rule
  are : earlier ++ rule ∷ later ≡ rules
  found : finding_of actor earlier rule.definition ≡ Some finding

listed_is : (o : Option Finding) (finding : Finding) → IsIn finding (listed o) → o ≡ Some finding
listed_is None finding m = absurd m
listed_is (Some f) finding (inl e) = ap Some e
listed_is (Some f) finding (inr m) = absurd m

listed_behind : (actor : ℕ) (earlier rules : List Rule) (finding : Finding) → IsIn finding (findings_behind actor earlier rules) → Listed actor (earlier ++ rules) finding
listed_behind actor earlier [] finding m = absurd m
listed_behind actor earlier (rule ∷ rules) finding m =
    elim (IsIn-append_cases finding (listed (finding_of actor earlier rule.definition)) (findings_behind actor (earlier ++ rule ∷ []) rules) m) [
      | inl l ↦ record { earlier = earlier; rule = rule; later = rules; are = refl; found = listed_is (finding_of actor earlier rule.definition) finding l }
      | inr r ↦
          let p = listed_behind actor (earlier ++ rule ∷ []) rules finding r in
          record { earlier = p.earlier; rule = p.rule; later = p.later; are = p.are ∙ append_assoc earlier (rule ∷ []) rules; found = p.found }
    ]

record ListedFrom (from : ℕ) (actors : List ActorPlan) (finding : Finding) : Type 0 where
  place : ℕ
  own : ActorPlan
  actor : ℕ
  number : actor ≡ from + place
  at : slice_get actors place ≡ Some own
  listed_at : Listed actor own.rules finding

listed_from : (from : ℕ) (actors : List ActorPlan) (finding : Finding) → IsIn finding (findings_from from actors) → ListedFrom from actors finding
listed_from from [] finding m = absurd m
listed_from from (own ∷ actors) finding m =
    elim (IsIn-append_cases finding (findings_behind from [] own.rules) (findings_from (from + 1) actors) m) [
      | inl l ↦ record { place = 0; own = own; actor = from; number = omega arith; at = refl; listed_at = listed_behind from [] own.rules finding l }
      | inr r ↦ let p = listed_from (from + 1) actors finding r in let n = p.number in record { place = suc p.place; own = p.own; actor = p.actor; number = omega (arith, n); at = p.at; listed_at = p.listed_at }
    ]

-- of which definition a finding is
record Of (actor rule : ℕ) (finding : Finding) : Type 0 where
  about : (a r : ℕ) → IsAbout a r finding → (actor ≡ a) × (rule ≡ r)
  kept : (kind : ℕ) → Idle kind ≡ finding → ⊥

of_by : (actor : ℕ) (earlier : List Rule) (d : Definition) (finding : Finding) → finding_of actor earlier d ≡ Some finding → Of actor (length earlier + 1) finding
of_by actor earlier d finding e = by_dead (is_dead d) e
  where
    dead : Of actor (length earlier + 1) (Dead actor (length earlier + 1))
    dead = record { about = λ a r h. h; kept = λ kind f. absurd cc }

    narrow : Of actor (length earlier + 1) (Narrow actor (length earlier + 1))
    narrow = record { about = λ a r h. h; kept = λ kind f. absurd cc }

    shadowed : (by : ℕ) → Of actor (length earlier + 1) (Shadowed actor (length earlier + 1) by)
    shadowed by = record { about = λ a r h. h; kept = λ kind f. absurd cc }

    shadow : (s : Option ℕ) → option_map (Shadowed actor (length earlier + 1)) s ≡ Some finding → Of actor (length earlier + 1) finding
    shadow None f = absurd cc
    shadow (Some by) f = let same : Shadowed actor (length earlier + 1) by ≡ finding = cc in subst (Of actor (length earlier + 1)) same (shadowed by)

    by_narrow : (b : Bool) → (if b then Some (Narrow actor (length earlier + 1)) else option_map (Shadowed actor (length earlier + 1)) (first_shadow 1 earlier d)) ≡ Some finding → Of actor (length earlier + 1) finding
    by_narrow true f = let same : Narrow actor (length earlier + 1) ≡ finding = cc in subst (Of actor (length earlier + 1)) same narrow
    by_narrow false f = shadow (first_shadow 1 earlier d) f

    by_dead : (b : Bool) → (if b then Some (Dead actor (length earlier + 1)) else if is_narrow d then Some (Narrow actor (length earlier + 1)) else option_map (Shadowed actor (length earlier + 1)) (first_shadow 1 earlier d)) ≡ Some finding → Of actor (length earlier + 1) finding
    by_dead true f = let same : Dead actor (length earlier + 1) ≡ finding = cc in subst (Of actor (length earlier + 1)) same dead
    by_dead false f = by_narrow (is_narrow d) f

-- ---- idle kinds

idle_is : (taken : List ℕ) (from : ℕ) (kinds : List Kind) (finding : Finding) → IsIn finding (idle_from taken from kinds) → (kind : ℕ) × (Idle kind ≡ finding) × (contains_number taken kind ≡ false)
idle_is taken from [] finding m = absurd m
idle_is taken from (k ∷ kinds) finding m =
    elim (IsIn-append_cases finding (if contains_number taken from then [] else Idle from ∷ []) (idle_from taken (from + 1) kinds) m) [
      | inl l ↦ one (contains_number taken from) refl l
      | inr r ↦ idle_is taken (from + 1) kinds finding r
    ]
  where
    one : (b : Bool) → contains_number taken from ≡ b → IsIn finding (if b then [] else Idle from ∷ []) → (kind : ℕ) × (Idle kind ≡ finding) × (contains_number taken kind ≡ false)
    one true e l = absurd l
    one false e (inl s) = (from, s, e)
    one false e (inr l) = absurd l

same_kind : (k l : ℕ) → Idle k ≡ Idle l → k ≡ l
same_kind k l e = cc

pub idle_untaken : (plan : Plan) (kind : ℕ) → IsIn (Idle kind) (findings plan) → contains_number (kinds_from 0 plan.actors) kind ≡ false
idle_untaken plan kind m =
    elim (IsIn-append_cases (Idle kind) (findings_from 0 plan.actors) (idle_from (kinds_from 0 plan.actors) 0 plan.kinds) m) [
      | inl l ↦ let p = (listed_from 0 plan.actors (Idle kind) l).listed_at in absurd ((of_by _ p.earlier p.rule.definition (Idle kind) p.found).kept kind refl)
      | inr r ↦ let p = idle_is (kinds_from 0 plan.actors) 0 plan.kinds (Idle kind) r in let same = same_kind p.0 kind p.1 in subst (λ (k : ℕ). contains_number (kinds_from 0 plan.actors) k ≡ false) same p.2
    ]

-- the kinds of a definition without a finding are taken
taken_behind : (actor : ℕ) (front rules earlier : List Rule) (rule : Rule) (later : List Rule) (kind : ℕ) → earlier ++ rule ∷ later ≡ rules → finding_of actor (front ++ earlier) rule.definition ≡ None → IsIn kind rule.definition.patterns
    → IsIn kind (kinds_behind actor front rules)
taken_behind actor front [] [] rule later kind e f m = absurd cc
taken_behind actor front [] (x ∷ earlier) rule later kind e f m = absurd cc
taken_behind actor front (first ∷ rules) [] rule later kind e f m =
    let same : rule ≡ first = cc in
    let none : finding_of actor front first.definition ≡ None = ap (λ (r : Rule). finding_of actor front r.definition) (sym same) ∙ ap (λ (rs : List Rule). finding_of actor rs rule.definition) (sym (append-nil front)) ∙ f in
    let Taken : Option Finding → Type 0 = λ o. IsIn kind (kinds_of o first.definition) in
    let here : IsIn kind first.definition.patterns = subst (λ (r : Rule). IsIn kind r.definition.patterns) same m in
    IsIn-append_left kind (kinds_of (finding_of actor front first.definition) first.definition) (kinds_behind actor (front ++ first ∷ []) rules) (subst Taken (sym none) here)
taken_behind actor front (first ∷ rules) (x ∷ earlier) rule later kind e f m =
    let same : x ≡ first = cc in
    let rest : earlier ++ rule ∷ later ≡ rules = cc in
    let shift : front ++ x ∷ earlier ≡ (front ++ first ∷ []) ++ earlier = ap (λ (r : Rule). front ++ r ∷ earlier) same ∙ sym (append_assoc front (first ∷ []) earlier) in
    IsIn-append_right kind (kinds_of (finding_of actor front first.definition) first.definition) (kinds_behind actor (front ++ first ∷ []) rules)
    (taken_behind actor (front ++ first ∷ []) rules earlier rule later kind rest (ap (λ (rs : List Rule). finding_of actor rs rule.definition) (sym shift) ∙ f) m)

taken_from : (from : ℕ) (actors : List ActorPlan) (place : ℕ) (own : ActorPlan) (kind : ℕ) → slice_get actors place ≡ Some own → IsIn kind (kinds_behind (from + place) [] own.rules) → IsIn kind (kinds_from from actors)
taken_from from [] place own kind e m = absurd cc
taken_from from (first ∷ actors) zero own kind e m =
    let same : own ≡ first = cc in
    let number : from + 0 ≡ from = omega arith in
    let At : ℕ → Type 0 = λ n. IsIn kind (kinds_behind n [] own.rules) in
    let Own : ActorPlan → Type 0 = λ a. IsIn kind (kinds_behind from [] a.rules) in
    IsIn-append_left kind (kinds_behind from [] first.rules) (kinds_from (from + 1) actors) (subst Own same (subst At number m))
taken_from from (first ∷ actors) (suc place) own kind e m =
    let number : from + suc place ≡ from + 1 + place = omega arith in
    let At : ℕ → Type 0 = λ n. IsIn kind (kinds_behind n [] own.rules) in
    IsIn-append_right kind (kinds_behind from [] first.rules) (kinds_from (from + 1) actors) (taken_from (from + 1) actors place own kind e (subst At number m))

-- ---- the laws

fired_of : (plan : Plan) (actor : ℕ) (limits : Limits) (feeds : ℕ) (sent : List Sent) → AreInRange sent → (entry : Entry) → IsIn entry (fair plan actor limits feeds sent).entries → (firing : Firing) → entry.firing ≡ Some firing
    → Fired (setting_of plan actor limits).rules (recorded_messages (fair plan actor limits feeds sent).entries) firing × AllByRecursion HasValuesInRange (recorded_messages (fair plan actor limits feeds sent).entries)
fired_of plan actor limits feeds sent values entry m firing e =
    let rules : List Rule = (setting_of plan actor limits).rules in
    let entries : List Entry = (fair plan actor limits feeds sent).entries in
    let sound = all_sound (setting_of plan actor limits) sent (opening feeds (length plan.actors)) (record { firings = tt; values = tt }) values in
    let Each : Entry → Type 0 = λ x. IfSome x.firing (Fired rules (recorded_messages entries)) in
    let P : Option Firing → Type 0 = λ o. IfSome o (Fired rules (recorded_messages entries)) in
    (subst P e (each_in Each entries sound.firings entry m), sound.values)

-- what fired, and the rule whose definition it is
record Chosen (rules : List Rule) (messages : List Message) (firing : Firing) : Type 0 where
  fired : Fired rules messages firing
  values : AllByRecursion HasValuesInRange fired.before
  placed_at : Placed rules fired.chosen.rule
  chosen_is : IsChosen fired.before fired.live (definitions_of (placed_at.earlier ++ placed_at.rule ∷ placed_at.later)) (Some fired.chosen)

chosen_of : (rules : List Rule) (messages : List Message) (firing : Firing) → Fired rules messages firing → AllByRecursion HasValuesInRange messages → Chosen rules messages firing
chosen_of rules messages firing f values =
    let Is : Option Candidate → Type 0 = λ o. IsChosen f.before f.live (definitions_of rules) o in
    let chosen = subst Is f.choice_is (choice_is_chosen f.before f.live (definitions_of rules)) in
    let p = placed rules [] f.chosen.rule chosen.0.definition chosen.0.numbered in
    let All : List Message → Type 0 = λ ls. AllByRecursion HasValuesInRange ls in
    let Of' : List Rule → Type 0 = λ rs. IsChosen f.before f.live (definitions_of rs) (Some f.chosen) in
    record {
      fired = f;
      values = each_left HasValuesInRange f.before f.later (subst All (sym f.are) values);
      placed_at = p;
      chosen_is = subst Of' (sym p.are) chosen;
    }

chosen_has_none : (rules : List Rule) (messages : List Message) (firing : Firing) (c : Chosen rules messages firing) (actor : ℕ) → finding_of actor c.placed_at.earlier c.placed_at.rule.definition ≡ None
chosen_has_none rules messages firing c actor =
    no_finding c.fired.before c.fired.live c.values c.placed_at.earlier c.placed_at.rule c.placed_at.later c.fired.chosen c.placed_at.number_is c.chosen_is actor (finding_of actor c.placed_at.earlier c.placed_at.rule.definition) refl

pub findings_never_fire : FindingsNeverFire
findings_never_fire plan actor limits feeds sent values entry m firing e finding l about =
    let f = fired_of plan actor limits feeds sent values entry m firing e in
    elim (IsIn-append_cases finding (findings_from 0 plan.actors) (idle_from (kinds_from 0 plan.actors) 0 plan.kinds) l) [
      | inl p ↦ fires f.0 f.1 (listed_from 0 plan.actors finding p)
      | inr r ↦ let i = idle_is (kinds_from 0 plan.actors) 0 plan.kinds finding r in subst (IsAbout actor firing.rule) (sym i.1) about
    ]
  where
    fires : Fired (setting_of plan actor limits).rules (recorded_messages (fair plan actor limits feeds sent).entries) firing → AllByRecursion HasValuesInRange (recorded_messages (fair plan actor limits feeds sent).entries) → ListedFrom 0 plan.actors finding → ⊥
    fires f values q =
        let at = q.listed_at in
        let is = (of_by q.actor at.earlier at.rule.definition finding at.found).about actor firing.rule about in
        let here : q.place ≡ actor = let n = q.number in let a = is.0 in omega (arith, n, a) in
        let found : slice_get plan.actors actor ≡ Some q.own = ap (slice_get plan.actors) (sym here) ∙ q.at in
        let rules_are : rules_of (slice_get plan.actors actor) ≡ at.earlier ++ at.rule ∷ at.later = ap rules_of found ∙ sym at.are in
        let All : List Message → Type 0 = λ ls. AllByRecursion HasValuesInRange ls in
        let inside = each_left HasValuesInRange f.before f.later (subst All (sym f.are) values) in
        let Is : Option Candidate → Type 0 = λ o. IsChosen f.before f.live (definitions_of (rules_of (slice_get plan.actors actor))) o in
        let In : List Rule → Type 0 = λ rs. IsChosen f.before f.live (definitions_of rs) (Some f.chosen) in
        let chosen = subst In rules_are (subst Is f.choice_is (choice_is_chosen f.before f.live (definitions_of (rules_of (slice_get plan.actors actor))))) in
        let number : f.chosen.rule ≡ 1 + length at.earlier = let r = f.rule in let b = is.1 in omega (arith, r, b) in
        let none = no_finding f.before f.live inside at.earlier at.rule at.later f.chosen number chosen q.actor (Some finding) at.found in
        absurd cc

-- ---- of a kind that is not taken there is no number in a match

matched_kind : (messages : List Message) (live kinds taken : List ℕ) (number : ℕ) → Assigns messages live kinds (slots_of taken) → IsIn number taken → (kind : ℕ) × IsIn kind kinds × (is_of_kind (recorded_message messages number) kind ≡ true)
matched_kind messages live [] [] number a m = absurd m
matched_kind messages live [] (n ∷ taken) number a m = absurd a
matched_kind messages live (k ∷ kinds) [] number a m = absurd m
matched_kind messages live (k ∷ kinds) (n ∷ taken) number a (inl e) = (k, inl refl, ap (λ (x : ℕ). is_of_kind (recorded_message messages x) k) (sym e) ∙ a.0.of_kind)
matched_kind messages live (k ∷ kinds) (n ∷ taken) number a (inr m) = let later = matched_kind messages live kinds taken number a.1 m in (later.0, inr later.1, later.2)

other_kind : (a b c : ℕ) → (a == b) ≡ true → (c == b) ≡ false → (a == c) ≡ false
other_kind a b c e f = grind (arith, nat_tests)

other_at : (before later : List Message) (n k kind : ℕ) → is_of_kind (slice_get before n) k ≡ true → (kind == k) ≡ false → is_of_kind (slice_get (before ++ later) n) kind ≡ false
other_at [] later n k kind e f = absurd cc
other_at (x ∷ before) later zero k kind e f = other_kind x.kind k kind e f
other_at (x ∷ before) later (suc n) k kind e f = other_at before later n k kind e f

other_message : (before later : List Message) (n k kind : ℕ) → is_of_kind (recorded_message before n) k ≡ true → (kind == k) ≡ false → is_of_kind (recorded_message (before ++ later) n) kind ≡ false
other_message before later zero k kind e f = refl
other_message before later (suc n) k kind e f = other_at before later n k kind e f

apart_from : (kinds : List ℕ) (kind k : ℕ) → contains_number kinds kind ≡ false → IsIn k kinds → (kind == k) ≡ false
apart_from [] kind k e m = absurd m
apart_from (x ∷ kinds) kind k e (inl s) = ap (λ (y : ℕ). kind == y) (sym s) ∙ (or_parts (kind == x) (contains_number kinds kind) e).0
apart_from (x ∷ kinds) kind k e (inr m) = apart_from kinds kind k (or_parts (kind == x) (contains_number kinds kind) e).1 m

no_rule : (earlier : List Rule) (rule : Rule) (later : List Rule) → earlier ++ rule ∷ later ≡ [] → ⊥
no_rule [] rule later e = absurd cc
no_rule (x ∷ earlier) rule later e = absurd cc

untaken_by : (plan : Plan) (actor : ℕ) (messages : List Message) (firing : Firing) (kind number : ℕ) → contains_number (kinds_from 0 plan.actors) kind ≡ false → IsIn number firing.taken
    → (o : Option ActorPlan) → slice_get plan.actors actor ≡ o → Chosen (rules_of o) messages firing → is_of_kind (recorded_message messages number) kind ≡ false
untaken_by plan actor messages firing kind number idle m None e c = absurd (no_rule c.placed_at.earlier c.placed_at.rule c.placed_at.later c.placed_at.are)
untaken_by plan actor messages firing kind number idle m (Some own) e c =
    let at = c.placed_at in
    let f = c.fired in
    let a = assigned f.before f.live c.values at.earlier at.rule at.later f.chosen at.number_is c.chosen_is in
    let In : List ℕ → Type 0 = λ ns. IsIn number ns in
    let k = matched_kind f.before (seen_of at.rule.definition (length f.before) f.live) at.rule.definition.patterns f.chosen.taken number a (subst In (sym f.taken) m) in
    let none = chosen_has_none own.rules messages firing c actor in
    let behind = taken_behind actor [] own.rules at.earlier at.rule at.later k.0 at.are none k.1 in
    let start : actor ≡ 0 + actor = omega arith in
    let At : ℕ → Type 0 = λ n. IsIn k.0 (kinds_behind n [] own.rules) in
    let taken = taken_from 0 plan.actors actor own k.0 e (subst At start behind) in
    let apart = apart_from (kinds_from 0 plan.actors) kind k.0 idle taken in
    ap (λ (ls : List Message). is_of_kind (recorded_message ls number) kind) (sym f.are) ∙ other_message f.before f.later number k.0 kind k.2 apart

pub idle_kinds_are_never_taken : IdleKindsAreNeverTaken
idle_kinds_are_never_taken plan actor limits feeds sent values entry m firing e kind l number k =
    let messages : List Message = recorded_messages (fair plan actor limits feeds sent).entries in
    let f = fired_of plan actor limits feeds sent values entry m firing e in
    untaken_by plan actor messages firing kind number (idle_untaken plan kind l) k (slice_get plan.actors actor) refl (chosen_of (rules_of (slice_get plan.actors actor)) messages firing f.0 f.1)
