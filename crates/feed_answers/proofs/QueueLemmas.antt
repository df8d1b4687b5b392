-- The answers of a feed that are left for each actor.
use Rattle.std.proofs.Common.{◌≡◌, ◌∙◌, ◌+◌, ◌<◌, ◌≤◌, ℕ, zero, suc, List, [], ◌∷◌, ◌++◌, append_assoc, true, false, Option, Some, None, length, map, drop, get_or, slice_get, slice_set, refl, sym, ap, add-zero, arith}
use Rattle.std.specs.Borrow.{Bor}
use Rattle.std.specs.Option.{option_and_then, option_copied, option_map}
use Rattle.join_base.specs.declared.message.Value.{Value}
use Rattle.feed_answers.specs.Queues.{AreNumbered, front, front_at, replies_of, seen, taken_at, taken_from}
use Rattle.std.proofs.lemmas.List.{drop_more, length-map, map-append}
use Rattle.fair_semantics.proofs.NumberLemmas.{count_numbers}
use Rattle.std.proofs.lemmas.Option.{slice_get-map, slice_get_past, slice_get_read}
use Rattle.join_base.specs.declared.message.Source.TheVariants.{Feed}
use Rattle.fair_semantics.specs.declared.run.Entry.{Entry}
use Rattle.fair_semantics.specs.Linked.{numbers_from, same_source}
use Rattle.feed_answers.specs.Answers.{arrivals_from, reply_in}
use Rattle.feed_answers.proofs.ReplyLemmas.{seen_at}

pub front_drop : (f : ℕ → Option Value) (xs : List ℕ) (place : ℕ) → front (drop place (map f xs)) ≡ option_and_then f (slice_get xs place)
front_drop f [] zero = refl
front_drop f [] (suc place) = refl
front_drop f (x ∷ xs) zero = refl
front_drop f (x ∷ xs) (suc place) = front_drop f xs place

pub get_same : {X : Type 0} (xs : List X) (k : ℕ) (x y : X) → slice_get xs k ≡ Some x → slice_get (slice_set xs k y) k ≡ Some y
get_same [] k x y e = absurd cc
get_same (z ∷ xs) zero x y e = refl
get_same (z ∷ xs) (suc k) x y e = get_same xs k x y e

pub get_other : {X : Type 0} (xs : List X) (k j : ℕ) (y : X) → (j ≡ k → ⊥) → slice_get (slice_set xs k y) j ≡ slice_get xs j
get_other [] k j y h = refl
get_other (z ∷ xs) zero zero y h = absurd (h refl)
get_other (z ∷ xs) zero (suc j) y h = refl
get_other (z ∷ xs) (suc k) zero y h = refl
get_other (z ∷ xs) (suc k) (suc j) y h = get_other xs k j y (λ e. h (ap suc e))

-- ---- the first of a queue

drop_at : (values : List (Option Value)) (place : ℕ) (value : Option Value) → slice_get values place ≡ Some value → drop place values ≡ value ∷ drop (place + 1) values
drop_at [] place value e = absurd cc
drop_at (v ∷ values) zero value e = let same : v ≡ value = cc in ap (λ (x : Option Value). x ∷ values) same
drop_at (v ∷ values) (suc place) value e = let next : suc place + 1 ≡ suc (place + 1) = omega arith in rw next (drop_at values place value e)

pub taken_first : (answers : List (Option (Bor Value))) (place : ℕ) (x : Option (Bor Value)) (queue : List (Option Value)) → drop place (seen answers) ≡ queue → place < length answers → x ≡ get_or answers place x → option_copied x ≡ front queue
taken_first answers place x queue is l e = let rest = drop_at (seen answers) place (option_copied x) (seen_at answers place x l e) in rw (← is, rest) refl

pub taken_rest : (answers : List (Option (Bor Value))) (place : ℕ) (x : Option (Bor Value)) (queue : List (Option Value)) → drop place (seen answers) ≡ queue → place < length answers → x ≡ get_or answers place x → drop (place + 1) (seen answers) ≡ drop 1 queue
taken_rest answers place x queue is l e = let rest = drop_at (seen answers) place (option_copied x) (seen_at answers place x l e) in rw (← is, rest) refl

-- ---- the queue of an actor

module _ (queues : List (List (Option Value))) (actor : ℕ) where
  pub front_there : (queue : List (Option Value)) → actor < length queues → queue ≡ get_or queues actor queue → front_at queues actor ≡ front queue
  front_there queue l e = ap (option_and_then front) (slice_get_read queues (length queues) actor queue refl l e)

  pub taken_there : (queue : List (Option Value)) → actor < length queues → queue ≡ get_or queues actor queue → taken_at queues actor ≡ slice_set queues actor (drop 1 queue)
  taken_there queue l e = ap (taken_from queues actor) (slice_get_read queues (length queues) actor queue refl l e)

  pub front_past : length queues ≤ actor → front_at queues actor ≡ None
  front_past l = ap (option_and_then front) (slice_get_past queues actor l)

  pub taken_past : length queues ≤ actor → taken_at queues actor ≡ queues
  taken_past l = ap (taken_from queues actor) (slice_get_past queues actor l)

-- ---- the answers of a feed, entry by entry

numbers_at : (start count place : ℕ) → place < count → slice_get (numbers_from start count) place ≡ Some (start + place)
numbers_at start zero place l = absurd (omega arith)
numbers_at start (suc count) zero l = ap Some (sym (add-zero start))
numbers_at start (suc count) (suc place) l = let e : start + 1 + place ≡ start + suc place = omega arith in numbers_at (start + 1) count place (omega arith) ∙ ap Some e

number_at : (entries : List Entry) (place : ℕ) (entry : Entry) → AreNumbered entries → place < length entries → entry ≡ get_or entries place entry → entry.number ≡ 1 + place
number_at entries place entry numbered l e =
    let own : slice_get (map (λ (x : Entry). x.number) entries) place ≡ Some entry.number = slice_get-map (λ (x : Entry). x.number) entries place ∙ ap (option_map (λ (x : Entry). x.number)) (slice_get_read entries (length entries) place entry refl l e) in
    let is : slice_get (map (λ (x : Entry). x.number) entries) place ≡ Some (1 + place) = ap (λ (ns : List ℕ). slice_get ns place) numbered ∙ numbers_at 1 (length entries) place l in
    cc

-- the reply that stands at the entry's place
reply_there : (entries : List Entry) (replies : List (Option (Bor Value))) (place : ℕ) (x : Option (Bor Value)) → seen replies ≡ replies_of entries → place < length entries → place < length replies → x ≡ get_or replies place x → option_copied x ≡ reply_in entries (1 + place)
reply_there entries replies place x all l m e =
    let own : slice_get (seen replies) place ≡ Some (option_copied x) = seen_at replies place x m e in
    let is : slice_get (seen replies) place ≡ Some (reply_in entries (1 + place)) =
    ap (λ (vs : List (Option Value)). slice_get vs place) all ∙ slice_get-map (reply_in entries) (numbers_from 1 (length entries)) place ∙ ap (option_map (reply_in entries)) (numbers_at 1 (length entries) place l) in
    cc

module _ (entries : List Entry) (feed place : ℕ) (entry : Entry) (so_far : List (Option Value)) (total : List (Option Value)) (l : place < length entries) (e : entry ≡ get_or entries place entry) where
  rest_is : drop place entries ≡ entry ∷ drop (place + 1) entries
  rest_is = drop_more entries place entry l ∙ ap (λ (x : Entry). x ∷ drop (place + 1) entries) (sym e)

  pub answer_more : AreNumbered entries → (replies : List (Option (Bor Value))) (x : Option (Bor Value)) (after : List (Option Value)) → seen replies ≡ replies_of entries → place < length replies → x ≡ get_or replies place x → same_source entry.source (Feed feed) ≡ true → after ≡ so_far ++ option_copied x ∷ [] → so_far ++ map (reply_in entries) (arrivals_from (Feed feed) (drop place entries)) ≡ total → after ++ map (reply_in entries) (arrivals_from (Feed feed) (drop (place + 1) entries)) ≡ total
  answer_more numbered replies x after all m at from is h =
      let old : so_far ++ map (reply_in entries) (arrivals_from (Feed feed) (entry ∷ drop (place + 1) entries)) ≡ total = rw rest_is at h in
      let here : arrivals_from (Feed feed) (entry ∷ drop (place + 1) entries) ≡ entry.number ∷ arrivals_from (Feed feed) (drop (place + 1) entries) = rw from refl in
      let value : option_copied x ≡ reply_in entries entry.number = reply_there entries replies place x all l m at ∙ ap (reply_in entries) (sym (number_at entries place entry numbered l e)) in
      rw (is, append_assoc, value) (rw here at old)

  pub answer_passed : (after : List (Option Value)) → same_source entry.source (Feed feed) ≡ false → after ≡ so_far → so_far ++ map (reply_in entries) (arrivals_from (Feed feed) (drop place entries)) ≡ total → after ++ map (reply_in entries) (arrivals_from (Feed feed) (drop (place + 1) entries)) ≡ total
  answer_passed after from is h =
      let old : so_far ++ map (reply_in entries) (arrivals_from (Feed feed) (entry ∷ drop (place + 1) entries)) ≡ total = rw rest_is at h in
      let here : arrivals_from (Feed feed) (entry ∷ drop (place + 1) entries) ≡ arrivals_from (Feed feed) (drop (place + 1) entries) = rw from refl in
      rw is (rw here at old)

-- items at one place of lists that are mapped to the same
pub twins_at : {X Y Z : Type 0} (f : X → Z) (g : Y → Z) (xs : List X) (ys : List Y) (place : ℕ) (x : X) (y : Y) → map f xs ≡ map g ys → place < length ys → x ≡ get_or xs place x → y ≡ get_or ys place y → f x ≡ g y
twins_at f g xs [] place x y m l a b = absurd (omega arith)
twins_at f g [] (w ∷ ys) place x y m l a b = absurd cc
twins_at f g (v ∷ xs) (w ∷ ys) zero x y m l a b = let here : f v ≡ g w = cc in cc
twins_at f g (v ∷ xs) (w ∷ ys) (suc place) x y m l a b = let rest : map f xs ≡ map g ys = cc in twins_at f g xs ys place x y rest (omega arith) a b

pub as_many : (entries : List Entry) (replies : List (Option (Bor Value))) (place : ℕ) → seen replies ≡ replies_of entries → place < length entries → place < length replies
as_many entries replies place all l =
    let own : length (seen replies) ≡ length replies = length-map replies option_copied in
    let theirs : length (replies_of entries) ≡ length entries = length-map (numbers_from 1 (length entries)) (reply_in entries) ∙ count_numbers 1 (length entries) in
    let same = ap length all in
    omega arith

-- an answer more
pub seen_more : (answers after : List (Option (Bor Value))) (x : Option (Bor Value)) → after ≡ answers ++ x ∷ [] → seen after ≡ seen answers ++ option_copied x ∷ []
seen_more answers after x e = ap seen e ∙ map-append option_copied answers (x ∷ [])

-- ---- an answer that is put in the place of the same one

get_dropped : (values : List (Option Value)) (next place : ℕ) → slice_get (drop next values) place ≡ slice_get values (next + place)
get_dropped [] zero place = refl
get_dropped [] (suc next) place = refl
get_dropped (v ∷ values) zero place = let e : 0 + place ≡ place = omega arith in ap (slice_get (v ∷ values)) (sym e)
get_dropped (v ∷ values) (suc next) place = let e : suc next + place ≡ suc (next + place) = omega arith in get_dropped values next place ∙ ap (slice_get (v ∷ values)) (sym e)

seen_put : (answers : List (Option (Bor Value))) (place : ℕ) (x : Option (Bor Value)) → slice_get (seen answers) place ≡ Some (option_copied x) → seen (slice_set answers place x) ≡ seen answers
seen_put [] place x e = refl
seen_put (a ∷ answers) zero x e = let same : option_copied a ≡ option_copied x = cc in ap (λ (v : Option Value). v ∷ seen answers) (sym same)
seen_put (a ∷ answers) (suc place) x e = ap (λ (vs : List (Option Value)). option_copied a ∷ vs) (seen_put answers place x e)

seen_within : (answers : List (Option (Bor Value))) (place : ℕ) (value : Option Value) → slice_get (seen answers) place ≡ Some value → place < length answers
seen_within [] place value e = absurd cc
seen_within (a ∷ answers) zero value e = omega arith
seen_within (a ∷ answers) (suc place) value e = let rest = seen_within answers place value e in omega arith

module _ (answers : List (Option (Bor Value))) (next place : ℕ) (queue : List (Option Value)) (is : drop next (seen answers) ≡ queue) where
  there : (value : Option Value) → slice_get queue place ≡ Some value → slice_get (seen answers) (next + place) ≡ Some value
  there value e = sym (get_dropped (seen answers) next place) ∙ ap (λ (q : List (Option Value)). slice_get q place) is ∙ e

  pub put_within : (value : Option Value) → slice_get queue place ≡ Some value → next + place < length answers
  put_within value e = seen_within answers (next + place) value (there value e)

  pub put_same : (x : Option (Bor Value)) → slice_get queue place ≡ Some (option_copied x) → drop next (seen (slice_set answers (next + place) x)) ≡ queue
  put_same x e = ap (drop next) (seen_put answers (next + place) x (there (option_copied x) e)) ∙ is
