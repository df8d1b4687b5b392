-- The lines that the queues make are those of the rows' answers.
use Rattle.std.proofs.Common.{◌≡◌, ◌∙◌, ◌+◌, ◌<◌, ◌⊎◌, inl, inr, ℕ, suc, List, [], ◌∷◌, ◌++◌, append_assoc, true, false, Option, Some, None, length, map, take, drop, get_or, Result, Ok, Err, slice_get, refl, sym, ap, subst, add-zero, add-one, arith}
use Rattle.std.specs.Prelude.{◌==◌, cond}
use Rattle.std.specs.List.{flat_map}
use Rattle.std.specs.Option.{option_and_then, option_map}
use Rattle.std.proofs.lemmas.Bool.{cases_eq}
use Rattle.std.proofs.lemmas.Bool.Decides.{nat_tests}
use Rattle.std.proofs.lemmas.List.{drop-drop, drop_more, length_push, take_at}
use Rattle.std.proofs.lemmas.List.Sums.{sum_by-append}
use Rattle.std.proofs.lemmas.Option.{slice_get-map}
use Rattle.join_base.specs.declared.message.Value.{Value}
use Rattle.join_base.specs.declared.message.Source.TheVariants.{Feed}
use Rattle.fair_semantics.specs.declared.run.ActorRun.{ActorRun}
use Rattle.fair_semantics.specs.Linked.{numbers_from}
use Rattle.feed_answers.specs.Answers.{answer_of, arrivals_from, from_one, reply_at, reply_in, row_answer, rows_for}
use Rattle.feed_answers.specs.AnswersText.{answer_line, feed_lines, lines_from}
use Rattle.std.specs.Result.{OnOk}
use Rattle.feed_answers.specs.Queues.{answers_in, front, front_at, lines_by, taken_at, taken_from}
use Rattle.feed_answers.proofs.QueueLemmas.{front_drop, get_same, get_other}

-- ---- how many rows are for an actor

rows_more : (actor target : ℕ) (before : List ℕ) → rows_for actor (before ++ target ∷ []) ≡ rows_for actor before + rows_for actor (target ∷ [])
rows_more actor target before = sum_by-append (λ (t : ℕ). cond (t == actor) 1 0) before (target ∷ [])

rows_own : (actor : ℕ) (before : List ℕ) → rows_for actor (before ++ actor ∷ []) ≡ rows_for actor before + 1
rows_own actor before =
    let same : (actor == actor) ≡ true = grind (arith, nat_tests) in
    let one : rows_for actor (actor ∷ []) ≡ 1 = rw same refl in
    rows_more actor actor before ∙ ap (λ (n : ℕ). rows_for actor before + n) one

rows_other : (actor target : ℕ) (before : List ℕ) → (actor ≡ target → ⊥) → rows_for actor (before ++ target ∷ []) ≡ rows_for actor before
rows_other actor target before h =
    let other : (target == actor) ≡ false = grind (arith, nat_tests) in
    let none : rows_for actor (target ∷ []) ≡ 0 = rw other refl in
    rows_more actor target before ∙ (ap (λ (n : ℕ). rows_for actor before + n) none ∙ add-zero (rows_for actor before))

get_behind : (before : List ℕ) (actor : ℕ) (targets : List ℕ) → slice_get (before ++ actor ∷ targets) (length before) ≡ Some actor
get_behind [] actor targets = refl
get_behind (b ∷ before) actor targets = get_behind before actor targets

-- ---- the queues behind some rows

module _ (feed : ℕ) (runs : List ActorRun) where
  -- each has the answers behind those of the rows before
  abbrev pub Stand : List (List (Option Value)) → List ℕ → Type 0
  Stand queues before = (actor : ℕ) → slice_get queues actor ≡ option_map (λ (own : ActorRun). drop (rows_for actor before) (answers_in feed own)) (slice_get runs actor)

  pub stand_first : Stand (map (answers_in feed) runs) []
  stand_first actor = slice_get-map (answers_in feed) runs actor

  -- the answer of the next row is the first of its queue
  answer_next : (queues : List (List (Option Value))) (before : List ℕ) (actor : ℕ) → Stand queues before → answer_of runs feed actor (rows_for actor (before ++ actor ∷ [])) ≡ front_at queues actor
  answer_next queues before actor stand =
      let place : rows_for actor (before ++ actor ∷ []) ≡ suc (rows_for actor before) = rows_own actor before ∙ add-one (rows_for actor before) in
      ap (answer_of runs feed actor) place ∙ by (slice_get runs actor) ∙ sym (ap (option_and_then front) (stand actor))
    where
      by : (o : Option ActorRun) → option_and_then (λ (own : ActorRun). reply_at own.entries feed (suc (rows_for actor before))) o ≡ option_and_then front (option_map (λ (own : ActorRun). drop (rows_for actor before) (answers_in feed own)) o)
      by None = refl
      by (Some own) = sym (front_drop (reply_in own.entries) (arrivals_from (Feed feed) own.entries) (rows_for actor before))

  stand_next : (queues : List (List (Option Value))) (before : List ℕ) (target : ℕ) → Stand queues before → Stand (taken_at queues target) (before ++ target ∷ [])
  stand_next queues before target stand actor = by (cases_eq actor target)
    where
      taken_own : (o : Option ActorRun) (q : Option (List (Option Value))) → slice_get queues actor ≡ q → q ≡ option_map (λ (own : ActorRun). drop (rows_for actor before) (answers_in feed own)) o
          → slice_get (taken_from queues actor q) actor ≡ option_map (λ (own : ActorRun). drop (rows_for actor before + 1) (answers_in feed own)) o
      taken_own None None e is = e
      taken_own None (Some q) e is = absurd cc
      taken_own (Some own) None e is = absurd cc
      taken_own (Some own) (Some q) e is =
          let same : q ≡ drop (rows_for actor before) (answers_in feed own) = cc in
          get_same queues actor q (drop 1 q) e ∙ ap Some (ap (drop 1) same ∙ drop-drop 1 (rows_for actor before) (answers_in feed own))

      untouched : (q : Option (List (Option Value))) → (actor ≡ target → ⊥) → slice_get (taken_from queues target q) actor ≡ slice_get queues actor
      untouched None h = refl
      untouched (Some q) h = get_other queues target actor (drop 1 q) h

      by : (actor ≡ target) ⊎ (actor ≡ target → ⊥) → slice_get (taken_at queues target) actor ≡ option_map (λ (own : ActorRun). drop (rows_for actor (before ++ target ∷ [])) (answers_in feed own)) (slice_get runs actor)
      by (inl e) =
          let here = taken_own (slice_get runs actor) (slice_get queues actor) refl (stand actor) in
          let one : rows_for actor (before ++ actor ∷ []) ≡ rows_for actor before + 1 = rows_own actor before in
          subst (λ (t : ℕ). slice_get (taken_at queues t) actor ≡ option_map (λ (own : ActorRun). drop (rows_for actor (before ++ t ∷ [])) (answers_in feed own)) (slice_get runs actor)) e (rw one here)
      by (inr h) =
          untouched (slice_get queues target) h ∙ stand actor
          ∙ ap (λ (n : ℕ). option_map (λ (own : ActorRun). drop n (answers_in feed own)) (slice_get runs actor)) (sym (rows_other actor target before h))

  row_next : (before : List ℕ) (actor : ℕ) (targets : List ℕ) → row_answer runs feed (before ++ actor ∷ targets) (length before + 1) ≡ answer_of runs feed actor (rows_for actor (before ++ actor ∷ []))
  row_next before actor targets =
      let here : from_one (before ++ actor ∷ targets) (length before + 1) ≡ Some actor = ap (from_one (before ++ actor ∷ targets)) (add-one (length before)) ∙ get_behind before actor targets in
      let front : take (length before + 1) (before ++ actor ∷ targets) ≡ before ++ actor ∷ [] =
      ap (take (length before + 1)) (sym (append_assoc before (actor ∷ []) targets)) ∙ take_at (before ++ actor ∷ []) targets (length before + 1) (length_push before actor) in
      rw (here, front) refl

  lines_left : (queues : List (List (Option Value))) (before targets : List ℕ) → Stand queues before → lines_by feed queues (length before + 1) targets ≡ flat_map (λ row. answer_line feed row (row_answer runs feed (before ++ targets) row)) (numbers_from (length before + 1) (length targets))
  lines_left queues before [] stand = refl
  lines_left queues before (actor ∷ targets) stand =
      let own : row_answer runs feed (before ++ actor ∷ targets) (length before + 1) ≡ front_at queues actor = row_next before actor targets ∙ answer_next queues before actor stand in
      let Rest : ℕ → List ℕ → Type 0 = λ start whole. lines_by feed (taken_at queues actor) (start + 1) targets ≡ flat_map (λ (row : ℕ). answer_line feed row (row_answer runs feed whole row)) (numbers_from (start + 1) (length targets)) in
      let rest = lines_left (taken_at queues actor) (before ++ actor ∷ []) targets (stand_next queues before actor stand) in
      let tail : Rest (length before + 1) (before ++ actor ∷ targets) =
      subst (λ (start : ℕ). Rest start (before ++ actor ∷ targets)) (length_push before actor) (subst (λ (whole : List ℕ). Rest (length (before ++ actor ∷ [])) whole) (append_assoc before (actor ∷ []) targets) rest) in
      ap (λ (o : Option Value). answer_line feed (length before + 1) o ++ lines_by feed (taken_at queues actor) (length before + 1 + 1) targets) (sym own)
      ∙ ap (λ (lines : List ℕ). answer_line feed (length before + 1) (row_answer runs feed (before ++ actor ∷ targets) (length before + 1)) ++ lines) tail

  pub lines_are : (targets : List ℕ) → lines_by feed (map (answers_in feed) runs) 1 targets ≡ feed_lines runs feed targets
  lines_are targets = lines_left (map (answers_in feed) runs) [] targets stand_first

-- ---- a feed more

pub feeds_step : (runs : List ActorRun) (feeds : List (List ℕ)) (place : ℕ) (targets : List ℕ) (queues : List (List (Option Value))) (text after start : List ℕ) → place < length feeds → targets ≡ get_or feeds place targets → queues ≡ map (answers_in (place + 1)) runs → after ≡ text ++ lines_by (place + 1) queues 1 targets → text ++ lines_from runs (place + 1) (drop place feeds) ≡ start → after ++ lines_from runs (place + 1 + 1) (drop (place + 1) feeds) ≡ start
feeds_step runs feeds place targets queues text after start l e q is so_far =
    let rest : drop place feeds ≡ targets ∷ drop (place + 1) feeds = drop_more feeds place targets l ∙ ap (λ (x : List ℕ). x ∷ drop (place + 1) feeds) (sym e) in
    let old : text ++ lines_from runs (place + 1) (targets ∷ drop (place + 1) feeds) ≡ start = rw rest at so_far in
    let now : after ≡ text ++ feed_lines runs (place + 1) targets = is ∙ ap (λ (own : List (List (Option Value))). text ++ lines_by (place + 1) own 1 targets) q ∙ ap (λ (lines : List ℕ). text ++ lines) (lines_are (place + 1) runs targets) in
    ap (λ (t : List ℕ). t ++ lines_from runs (place + 1 + 1) (drop (place + 1) feeds)) now ∙ append_assoc text (feed_lines runs (place + 1) targets) (lines_from runs (place + 1 + 1) (drop (place + 1) feeds)) ∙ old

-- ---- text that two calls append

pub both : {E : Type 0} (result : Result (Unit {0}) E) (old mid new first second : List ℕ) → mid ≡ old ++ first → OnOk result (new ≡ mid ++ second) → OnOk result (new ≡ old ++ (first ++ second))
both (Ok done) old mid new first second is h = h ∙ ap (λ (t : List ℕ). t ++ second) is ∙ append_assoc old first second
both (Err e) old mid new first second is h = tt
