-- An arrival stands at its ask's place among those of its feed, and the one reply to it is the first.
use Rattle.std.proofs.Common.{◌≡◌, ◌∙◌, inl, inr, ◌+◌, ◌-◌, ◌<◌, ◌≤◌, ℕ, zero, suc, List, [], ◌∷◌, ◌++◌, append_assoc, Bool, true, false, Option, Some, None, length, map, take, drop, get_or, slice_get, refl, sym, ap, subst, arith}
use Rattle.std.specs.Prelude.{◌==◌, if◌then◌else◌}
use Rattle.std.specs.List.{cons_option, filter_map}
use Rattle.std.specs.Option.{option_and_then}
use Rattle.std.proofs.lemmas.Bool.Decides.{nat_tests}
use Rattle.std.proofs.lemmas.List.{length-take-le, length_push, take-append-drop, take_more}
use Rattle.std.proofs.lemmas.List.Elements.{filter_map-append}
use Rattle.std.proofs.lemmas.Option.{slice_get-get_or}
use Rattle.join_base.specs.declared.message.Value.{Value}
use Rattle.join_base.specs.declared.message.Source.{Source}
use Rattle.join_base.specs.declared.message.Source.TheVariants.{Feed, Actor}
use Rattle.pattern_core.specs.Members.{IsIn}
use Rattle.fair_semantics.specs.declared.run.Effect.{Effect}
use Rattle.fair_semantics.specs.declared.run.Effect.TheVariants.{Print, Post, Reply}
use Rattle.fair_semantics.specs.declared.run.Entry.{Entry}
use Rattle.fair_semantics.specs.Linked.{firing_effects, numbers_from, same_source}
use Rattle.feed_answers.specs.Answers.{arrivals_from, effects_in, from_one, number_from, reply_at, reply_in, reply_to}
use Rattle.feed_answers.specs.Queues.{AreNumbered}
use Rattle.run_laws.specs.Replies.{one_where, replied_in, replies_of, reply_number, times}
use Rattle.ask_board.specs.declared.view.Ask.{Ask}
use Rattle.answerer.specs.Asks.{ask_at, asks_behind, asks_of, last_ask}
use Rattle.answerer.specs.Fit.{IsReply}
use Rattle.answerer.proofs.AskLemmas.{asks_go_on, at_place, get_within, length_asks}

-- ---- the arrival of an ask

at_end : {X : Type 0} (xs : List X) (y : X) (ys : List X) → slice_get (xs ++ y ∷ ys) (length xs) ≡ Some y
at_end [] y ys = refl
at_end (x ∷ xs) y ys = at_end xs y ys

not_past : {X : Type 0} (xs : List X) (k : ℕ) → slice_get xs k ≡ None → k < length xs → ⊥
not_past [] k e l = absurd (omega arith)
not_past (x ∷ xs) zero e l = absurd cc
not_past (x ∷ xs) (suc k) e l = not_past xs k e (omega arith)

number_at : (start n k : ℕ) → k < n → slice_get (numbers_from start n) k ≡ Some (start + k)
number_at start zero k l = absurd (omega arith)
number_at start (suc n) zero l = let e : start ≡ start + 0 = omega arith in ap (λ (m : ℕ). Some m) e
number_at start (suc n) (suc k) l = let e : start + 1 + k ≡ start + suc k = omega arith in number_at (start + 1) n k (omega arith) ∙ ap (λ (m : ℕ). Some m) e

mapped_at : (entries : List Entry) (k : ℕ) (x : Entry) → slice_get entries k ≡ Some x → slice_get (map (λ (entry : Entry). entry.number) entries) k ≡ Some x.number
mapped_at [] k x e = absurd cc
mapped_at (y ∷ entries) zero x e = let same : y ≡ x = cc in ap (λ (z : Entry). Some z.number) same
mapped_at (y ∷ entries) (suc k) x e = mapped_at entries k x e

pub numbered_at : (entries : List Entry) (k : ℕ) (x : Entry) → AreNumbered entries → slice_get entries k ≡ Some x → x.number ≡ suc k
numbered_at entries k x numbered e =
    let within = get_within entries k x e in
    let same : Some x.number ≡ Some (1 + k) = sym (mapped_at entries k x e) ∙ ap (λ (ns : List ℕ). slice_get ns k) numbered ∙ number_at 1 (length entries) k within in
    let is : x.number ≡ 1 + k = cc in
    is ∙ omega arith

equal_to_itself : (n : ℕ) → (n == n) ≡ true
equal_to_itself n = grind (arith, nat_tests)

-- an entry between others
module _ (front back : List Entry) (x : Entry) where
  abbrev whole : List Entry
  whole = (front ++ x ∷ []) ++ back

  pub own_arrivals : (feed : ℕ) → x.source ≡ Feed feed → arrivals_from (Feed feed) (front ++ x ∷ []) ≡ arrivals_from (Feed feed) front ++ x.number ∷ []
  own_arrivals feed e =
      let own : number_from (Feed feed) x ≡ Some x.number = ap (λ (s : Source). if same_source s (Feed feed) then Some x.number else None) e ∙ ap (λ (b : Bool). if b then Some x.number else None) (equal_to_itself feed) in
      filter_map-append (number_from (Feed feed)) front (x ∷ []) ∙ ap (λ (o : Option ℕ). arrivals_from (Feed feed) front ++ cons_option o []) own

  arrival_here : (actor : ℕ) (ask : Ask) → last_ask actor x.source (front ++ x ∷ []) ≡ Some ask → from_one (arrivals_from (Feed ask.feed) whole) ask.place ≡ Some x.number
  arrival_here actor ask e = by x.source refl e
    where
      found : (feed : ℕ) → x.source ≡ Feed feed → from_one (arrivals_from (Feed feed) whole) (length (arrivals_from (Feed feed) (front ++ x ∷ []))) ≡ Some x.number
      found feed own =
          let first : List ℕ = arrivals_from (Feed feed) front in
          let all : arrivals_from (Feed feed) whole ≡ (first ++ x.number ∷ []) ++ arrivals_from (Feed feed) back =
          filter_map-append (number_from (Feed feed)) (front ++ x ∷ []) back ∙ ap (λ (ns : List ℕ). ns ++ arrivals_from (Feed feed) back) (own_arrivals feed own) in
          let count : length (arrivals_from (Feed feed) (front ++ x ∷ [])) ≡ suc (length first) = ap length (own_arrivals feed own) ∙ length_push first x.number ∙ omega arith in
          ap (from_one (arrivals_from (Feed feed) whole)) count
          ∙ ap (λ (ns : List ℕ). slice_get ns (length first)) (all ∙ append_assoc first (x.number ∷ []) (arrivals_from (Feed feed) back))
          ∙ at_end first x.number (arrivals_from (Feed feed) back)

      by : (s : Source) → x.source ≡ s → last_ask actor s (front ++ x ∷ []) ≡ Some ask → from_one (arrivals_from (Feed ask.feed) whole) ask.place ≡ Some x.number
      by (Feed feed) own is =
          let same : record { feed = feed; actor = actor; place = length (arrivals_from (Feed feed) (front ++ x ∷ [])) } ≡ ask = cc in
          ap (λ (a : Ask). from_one (arrivals_from (Feed a.feed) whole) a.place) (sym same) ∙ found feed own
      by (Actor a) own is = absurd cc

-- the entry at a place, between those before it and those behind it
next_at : (entries : List Entry) (k : ℕ) (x : Entry) → slice_get entries k ≡ Some x → take (k + 1) entries ≡ take k entries ++ x ∷ []
next_at entries k x at =
    let within = get_within entries k x at in
    let same : get_or entries k x ≡ x = let known : Some (get_or entries k x) ≡ Some x = sym (slice_get-get_or entries k x within) ∙ at in cc in
    take_more entries k x within ∙ ap (λ (y : Entry). take k entries ++ y ∷ []) same

parts_at : (entries : List Entry) (k : ℕ) (x : Entry) → slice_get entries k ≡ Some x → entries ≡ whole (take k entries) (drop (k + 1) entries) x
parts_at entries k x at = sym (take-append-drop (k + 1) entries) ∙ ap (λ (es : List Entry). es ++ drop (k + 1) entries) (next_at entries k x at)

-- its ask is the last one up to it
pub ask_there : (actor : ℕ) (entries : List Entry) (k : ℕ) (x : Entry) → slice_get entries k ≡ Some x → slice_get (asks_of actor entries) k ≡ Some (last_ask actor x.source (take k entries ++ x ∷ []))
ask_there actor entries k x at =
    let within = get_within entries k x at in
    let front : List Entry = take k entries in
    let back : List Entry = drop (k + 1) entries in
    let size : length (asks_of actor front) ≡ k = length_asks actor front ∙ length-take-le k entries (omega (arith, within)) in
    let asks : asks_of actor entries ≡ (asks_of actor front ++ last_ask actor x.source (front ++ x ∷ []) ∷ []) ++ asks_behind actor (front ++ x ∷ []) back =
    ap (asks_of actor) (parts_at entries k x at) ∙ asks_go_on actor (front ++ x ∷ []) back ∙ ap (λ (os : List (Option Ask)). os ++ asks_behind actor (front ++ x ∷ []) back) (asks_go_on actor front (x ∷ [])) in
    ap (λ (os : List (Option Ask)). slice_get os k) (asks ∙ append_assoc (asks_of actor front) (last_ask actor x.source (front ++ x ∷ []) ∷ []) (asks_behind actor (front ++ x ∷ []) back))
    ∙ ap (slice_get (asks_of actor front ++ last_ask actor x.source (front ++ x ∷ []) ∷ asks_behind actor (front ++ x ∷ []) back)) (sym size)
    ∙ at_end (asks_of actor front) (last_ask actor x.source (front ++ x ∷ [])) (asks_behind actor (front ++ x ∷ []) back)

-- the arrival of an ask is the one at its place among those of its feed
pub arrival_of : (actor : ℕ) (entries : List Entry) (number : ℕ) (ask : Ask) → AreNumbered entries → ask_at (asks_of actor entries) number ≡ Some ask → from_one (arrivals_from (Feed ask.feed) entries) ask.place ≡ Some number
arrival_of actor entries number ask numbered e = by (at_place (asks_of actor entries) number ask e)
  where
    by : ((place : ℕ) × (number ≡ suc place) × (slice_get (asks_of actor entries) place ≡ Some (Some ask))) → from_one (arrivals_from (Feed ask.feed) entries) ask.place ≡ Some number
    by (k, is, here) = there (slice_get entries k) refl
      where
        within : k < length entries
        within = let inside = get_within (asks_of actor entries) k (Some ask) here in let count = length_asks actor entries in omega arith

        there : (o : Option Entry) → slice_get entries k ≡ o → from_one (arrivals_from (Feed ask.feed) entries) ask.place ≡ Some number
        there None at = absurd (not_past entries k at within)
        there (Some x) at =
            let front : List Entry = take k entries in
            let back : List Entry = drop (k + 1) entries in
            let own = ask_there actor entries k x at in
            let last : last_ask actor x.source (front ++ x ∷ []) ≡ Some ask = let both : Some (last_ask actor x.source (front ++ x ∷ [])) ≡ Some (Some ask) = sym own ∙ here in cc in
            ap (λ (es : List Entry). from_one (arrivals_from (Feed ask.feed) es) ask.place) (parts_at entries k x at)
            ∙ arrival_here front back x actor ask last
            ∙ ap (λ (n : ℕ). Some n) (numbered_at entries k x numbered at ∙ sym is)

-- ---- the one reply to an arrival

same_is : (n m : ℕ) → m ≡ n → (n == m) ≡ true
same_is n m e = grind (arith, nat_tests)

is_same : (n m : ℕ) → (m == n) ≡ true → (n == m) ≡ true
is_same n m e = grind (arith, nat_tests)

-- among effects that reply to it, it is counted
pub replied_some : (number : ℕ) (value : Value) (effects : List Effect) → IsIn (Reply number value) effects → 1 ≤ times number (filter_map reply_number effects)
replied_some number value [] h = absurd h
replied_some number value (effect ∷ effects) (inl e) = subst (λ (x : Effect). 1 ≤ times number (cons_option (reply_number x) (filter_map reply_number effects))) (sym e) here
  where
    here : 1 ≤ times number (number ∷ filter_map reply_number effects)
    here = let one : one_where (number == number) ≡ 1 = ap one_where (equal_to_itself number) in omega arith
replied_some number value (effect ∷ effects) (inr h) = by (reply_number effect) (replied_some number value effects h)
  where
    by : (o : Option ℕ) → 1 ≤ times number (filter_map reply_number effects) → 1 ≤ times number (cons_option o (filter_map reply_number effects))
    by None later = later
    by (Some n) later = omega arith

first_reply : (number : ℕ) (value : Value) (effects : List Effect) → times number (filter_map reply_number effects) ≤ 1 → IsIn (Reply number value) effects → slice_get (filter_map (reply_to number) effects) 0 ≡ Some value
first_reply number value [] once h = absurd h
first_reply number value (effect ∷ effects) once (inl e) =
    let here : reply_to number effect ≡ Some value = ap (reply_to number) e ∙ ap (λ (b : Bool). if b then Some value else None) (equal_to_itself number) in
    ap (λ (o : Option Value). slice_get (cons_option o (filter_map (reply_to number) effects)) 0) here
first_reply number value (Print line ∷ effects) once (inr h) = first_reply number value effects once h
first_reply number value (Post target message ∷ effects) once (inr h) = first_reply number value effects once h
first_reply number value (Reply to other ∷ effects) once (inr h) = by (to == number) refl (λ (few : times number (filter_map reply_number effects) ≤ 1). first_reply number value effects few h)
  where
    by : (b : Bool) → (to == number) ≡ b → (times number (filter_map reply_number effects) ≤ 1 → slice_get (filter_map (reply_to number) effects) 0 ≡ Some value)
        → slice_get (cons_option (if b then Some other else None) (filter_map (reply_to number) effects)) 0 ≡ Some value
    by true e later =
        let one : one_where (number == to) ≡ 1 = ap one_where (is_same number to e) in
        let some = replied_some number value effects h in
        absurd (omega (arith, once))
    by false e later = later (omega (arith, once))

replied_is : (entries : List Entry) → filter_map reply_number (effects_in entries) ≡ replied_in entries
replied_is [] = refl
replied_is (e ∷ entries) = filter_map-append reply_number (firing_effects e.firing) (effects_in entries) ∙ ap (λ (ns : List ℕ). replies_of e.firing ++ ns) (replied_is entries)

-- ---- both

pub one_reply : (entries : List Entry) (ask : Ask) (value : Value) → AreNumbered entries → ((number : ℕ) → times number (replied_in entries) ≤ 1) → IsReply entries ask value → reply_at entries ask.feed ask.place ≡ Some value
one_reply entries ask value numbered once (number, here, replied) =
    let few : times number (filter_map reply_number (effects_in entries)) ≤ 1 = subst (λ (ns : List ℕ). times number ns ≤ 1) (sym (replied_is entries)) (once number) in
    ap (option_and_then (reply_in entries)) (arrival_of ask.actor entries number ask numbered here) ∙ first_reply number value (effects_in entries) few replied
