-- The choice that computes is the choice in words.
use Rattle.std.proofs.Common.{◌≡◌, inl, inr, ℕ, ◌+◌, List, [], ◌∷◌, length, Bool, true, false, ◌&&◌, Option, Some, None, refl, ap, sym, subst, map}
use Rattle.join_base.specs.declared.message.Message.{Message}
use Rattle.guard_eval.specs.Meaning.{Assignment}
use Rattle.pattern_core.specs.declared.definition.Definition.{Definition}
use Rattle.pattern_core.specs.declared.candidate.Candidate.{Candidate}
use Rattle.pattern_core.specs.Members.{IsIn}
use Rattle.pattern_core.specs.Window.{seen_of}
use Rattle.pattern_core.specs.Matches.{assignments, complete_among, complete_matches, is_complete_match, is_full, makes_all_true}
use Rattle.pattern_core.specs.Assigns.{Assigns}
use Rattle.pattern_core.specs.Choice.{taken_of, slots_of, candidate_of, NumberedFrom, matches_from, choice, IsChoice, IsMatch, IsChosen}
use Rattle.pattern_core.specs.Law.{ChoiceIsChosen}
use Rattle.pattern_core.proofs.MembersLemmas.{IsIn-append_left, IsIn-append_right, IsIn-append_cases, IsIn-map, IsIn-map_from, IsIn-filter, IsIn-filter_from}
use Rattle.pattern_core.proofs.AssignsLemmas.{IsIn-assignments, Assigns-from_IsIn}
use Rattle.pattern_core.proofs.ChoiceLemmas.{least-IsChoice}

pub taken_of-slots_of : (ns : List ℕ) → taken_of (slots_of ns) ≡ ns
taken_of-slots_of [] = refl
taken_of-slots_of (n ∷ ns) = ap (λ (ms : List ℕ). n ∷ ms) (taken_of-slots_of ns)

pub is_full-slots_of : (ns : List ℕ) → is_full (slots_of ns) ≡ true
is_full-slots_of [] = refl
is_full-slots_of (n ∷ ns) = is_full-slots_of ns

pub slots_of-taken_of : (slots : Assignment) → is_full slots ≡ true → slots_of (taken_of slots) ≡ slots
slots_of-taken_of [] h = refl
slots_of-taken_of (None ∷ slots) h = absurd cc
slots_of-taken_of (Some n ∷ slots) h = ap (λ (s : Assignment). Some n ∷ s) (slots_of-taken_of slots h)

left_true : (a b : Bool) → (a && b) ≡ true → a ≡ true
left_true true b e = refl
left_true false b e = e

right_true : (a b : Bool) → (a && b) ≡ true → b ≡ true
right_true true b e = e
right_true false b e = absurd cc

and_of : (a b : Bool) → a ≡ true → b ≡ true → (a && b) ≡ true
and_of true b p q = q
and_of false b p q = p

module _ (messages : List Message) (seen : List ℕ) where
  -- a complete match of one definition among the numbers that it sees, by its numbers
  abbrev pub Completes : Definition → List ℕ → Type 0
  Completes d taken = Assigns messages seen d.patterns (slots_of taken) × (makes_all_true messages d.conjuncts (slots_of taken) ≡ true)

  to_complete : (d : Definition) (taken : List ℕ) → Completes d taken → IsIn (slots_of taken) (complete_among messages seen d)
  to_complete d taken h =
      IsIn-filter (is_complete_match messages d) (slots_of taken) (assignments messages seen d.patterns)
      (and_of (is_full (slots_of taken)) (makes_all_true messages d.conjuncts (slots_of taken)) (is_full-slots_of taken) h.1)
      (IsIn-assignments messages seen d.patterns (slots_of taken) h.0)

  from_complete : (d : Definition) (slots : Assignment) → IsIn slots (complete_among messages seen d) → Completes d (taken_of slots)
  from_complete d slots h =
      let r = IsIn-filter_from (is_complete_match messages d) slots (assignments messages seen d.patterns) h in
      let same = slots_of-taken_of slots (left_true (is_full slots) (makes_all_true messages d.conjuncts slots) r.1) in
      let P : Assignment → Type 0 = λ s. Assigns messages seen d.patterns s × (makes_all_true messages d.conjuncts s ≡ true) in
      subst P (sym same) (Assigns-from_IsIn messages seen d.patterns slots r.0, right_true (is_full slots) (makes_all_true messages d.conjuncts slots) r.1)

  pub IsIn-candidates : (rule : ℕ) (d : Definition) (c : Candidate) → c.rule ≡ rule → Completes d c.taken → IsIn c (map (candidate_of rule) (complete_among messages seen d))
  IsIn-candidates rule d c e h =
      let here = IsIn-map (candidate_of rule) (slots_of c.taken) (complete_among messages seen d) (to_complete d c.taken h) in
      let same : candidate_of rule (slots_of c.taken) ≡ c = λ i. record { rule = sym e i; taken = taken_of-slots_of c.taken i } in
      subst (λ (x : Candidate). IsIn x (map (candidate_of rule) (complete_among messages seen d))) same here

  pub IsIn-candidates_from : (rule : ℕ) (d : Definition) (c : Candidate) → IsIn c (map (candidate_of rule) (complete_among messages seen d)) → (c.rule ≡ rule) × Completes d c.taken
  IsIn-candidates_from rule d c h =
      let m = IsIn-map_from (candidate_of rule) c (complete_among messages seen d) h in
      subst (λ (x : Candidate). (x.rule ≡ rule) × Completes d x.taken) m.2 (refl, from_complete d m.0 m.1)

module _ (messages : List Message) (live : List ℕ) where
  abbrev CompletesIn : Definition → List ℕ → Type 0
  CompletesIn d taken = Completes messages (seen_of d (length messages) live) d taken

  pub matches_from_IsMatch : (from : ℕ) (ds : List Definition) (rule : ℕ) (taken : List ℕ) (d : Definition) → NumberedFrom from ds rule d → CompletesIn d taken → IsIn (record { rule = rule; taken = taken }) (matches_from messages live from ds)
  matches_from_IsMatch from [] rule taken d n h = absurd n
  matches_from_IsMatch from (first ∷ more) rule taken d (inl e) h =
      IsIn-append_left (record { rule = rule; taken = taken }) (map (candidate_of from) (complete_matches messages live first)) (matches_from messages live (from + 1) more)
      (IsIn-candidates messages (seen_of first (length messages) live) from first (record { rule = rule; taken = taken }) (sym e.0) (subst (λ (x : Definition). CompletesIn x taken) (sym e.1) h))
  matches_from_IsMatch from (first ∷ more) rule taken d (inr n) h =
      IsIn-append_right (record { rule = rule; taken = taken }) (map (candidate_of from) (complete_matches messages live first)) (matches_from messages live (from + 1) more)
      (matches_from_IsMatch (from + 1) more rule taken d n h)

  abbrev Numbered : ℕ → List Definition → Candidate → Type 0
  Numbered from ds c = (d : Definition) × NumberedFrom from ds c.rule d × CompletesIn d c.taken

  pub IsMatch-from_matches : (from : ℕ) (ds : List Definition) (c : Candidate) → IsIn c (matches_from messages live from ds) → Numbered from ds c
  IsMatch-from_matches from [] c h = absurd h
  IsMatch-from_matches from (first ∷ more) c h =
      elim (IsIn-append_cases c (map (candidate_of from) (complete_matches messages live first)) (matches_from messages live (from + 1) more) h) [
        | inl l ↦
            let m = IsIn-candidates_from messages (seen_of first (length messages) live) from first c l in
            (first, inl (sym m.0, refl), m.1)
        | inr r ↦ let q = IsMatch-from_matches (from + 1) more c r in (q.0, inr q.1, q.2)
      ]

  pub to_matches : (ds : List Definition) (c : Candidate) → IsMatch messages live ds c → IsIn c (matches_from messages live 1 ds)
  to_matches ds c m = matches_from_IsMatch 1 ds c.rule c.taken m.definition m.numbered (m.assigns, m.true_guard)

  pub from_matches : (ds : List Definition) (c : Candidate) → IsIn c (matches_from messages live 1 ds) → IsMatch messages live ds c
  from_matches ds c h = let q = IsMatch-from_matches 1 ds c h in record { definition = q.0; numbered = q.1; assigns = q.2.0; true_guard = q.2.1 }

  chosen_by : (ds : List Definition) (o : Option Candidate) → IsChoice (matches_from messages live 1 ds) o → IsChosen messages live ds o
  chosen_by ds None h = λ other m. h other (to_matches ds other m)
  chosen_by ds (Some c) h = (from_matches ds c h.member, λ other m. h.none_smaller other (to_matches ds other m))

  pub choice-IsChosen : (ds : List Definition) → IsChosen messages live ds (choice messages live ds)
  choice-IsChosen ds = chosen_by ds (choice messages live ds) (least-IsChoice (matches_from messages live 1 ds))

pub choice_is_chosen : ChoiceIsChosen
choice_is_chosen = choice-IsChosen
