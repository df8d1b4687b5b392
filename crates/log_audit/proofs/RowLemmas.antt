-- The rows of a feed as its posts, and those that are left behind an entry.
use Rattle.std.proofs.Common.{◌≡◌, ◌∙◌, ℕ, zero, suc, ◌+◌, ◌-◌, ◌^◌, ◌<◌, List, [], ◌∷◌, ◌++◌, length, length-append, map, drop, Bool, true, false, None, Some, slice_get, refl, ap, sym, arith}
use Rattle.std.specs.Prelude.{if◌then◌else◌, ◌==◌}
use Rattle.std.specs.List.{cons_option, filter_map}
use Rattle.std.proofs.lemmas.List.{length-map, length-drop}
use Rattle.join_base.specs.declared.message.Message.{Message}
use Rattle.join_base.specs.declared.message.Stamped.{Stamped}
use Rattle.join_base.specs.declared.message.Source.{Source}
use Rattle.join_base.specs.declared.message.Source.TheVariants.{Feed}
use Rattle.fair_semantics.specs.declared.run.Entry.{Entry}
use Rattle.fair_semantics.specs.Linked.{feed_posts, message_from, messages_of, post_for, same_source, taken_from}
use Rattle.log_replay.proofs.AcceptedLemmas.{taken_with}
use Rattle.log_audit.specs.Search.{left_behind}
use Rattle.log_audit.specs.Wrong.{Row, row_for, rows_for, rows_left}

-- ---- one row more

pub none_left : (rows : List Row) → slice_get rows 0 ≡ None → length rows ≡ 0
none_left [] is = refl
none_left (r ∷ rows) is = absurd cc

pub one_left : (rows : List Row) (row : Row) → slice_get rows 0 ≡ Some row → length (drop 1 rows) + 1 ≡ length rows
one_left [] row is = absurd cc
one_left (r ∷ rows) row is = omega arith

pub one_more_gone : (rows : List Row) (count : ℕ) → drop (count + 1) rows ≡ drop 1 (drop count rows)
one_more_gone rows count = let next : count + 1 ≡ suc count = omega arith in ap (λ (n : ℕ). drop n rows) next ∙ sym (at rows count)
  where
    at : (rs : List Row) (n : ℕ) → drop 1 (drop n rs) ≡ drop (suc n) rs
    at [] zero = refl
    at [] (suc n) = refl
    at (r ∷ rs) zero = refl
    at (r ∷ rs) (suc n) = at rs n

-- ---- the first row

abbrev numbered : ℕ → Message → Row
numbered number message = record { number = number; message = message }

row_number : (actor number : ℕ) (post : ℕ × Message) (row : Row) → row_for actor number post ≡ Some row → row.number ≡ number
row_number actor number post row e = by (post.0 == actor) e
  where
    by : (b : Bool) → (if b then Some (numbered number post.1) else None) ≡ Some row → row.number ≡ number
    by true p = let same : numbered number post.1 ≡ row = cc in sym (ap (λ (r : Row). r.number) same)
    by false p = absurd cc

-- what stands behind it is shorter than all by as many as its number is greater
pub first_small : (actor before place count : ℕ) (posts left : List (ℕ × Message)) (post : ℕ × Message) (row : Row) → place < length posts → count ≡ before + place → left ≡ drop (place + 1) posts → row_for actor (count + 1) post ≡ Some row
    → before + length posts < 2 ^ 64 → row.number + length left < 2 ^ 64
first_small actor before place count posts left post row within counted behind is small =
    let number = row_number actor (count + 1) post row is in
    let size : length left ≡ length (drop (place + 1) posts) = ap length behind in
    let rest = length-drop (place + 1) posts in
    omega (arith, within, counted, number, size, rest, small)

-- ---- rows and posts

abbrev pub messages : List Row → List Message
messages rows = map (λ (r : Row). r.message) rows

-- their messages are those of the posts to the actor
pub rows_messages : (actor before : ℕ) (posts : List (ℕ × Message)) → messages (rows_for actor before posts) ≡ messages_of (feed_posts actor (Some posts))
rows_messages actor before [] = refl
rows_messages actor before (post ∷ posts) = by (post.0 == actor) (rows_messages actor (before + 1) posts)
  where
    by : (b : Bool) → messages (rows_for actor (before + 1) posts) ≡ messages_of (filter_map (post_for actor) posts)
        → messages (cons_option (if b then Some record { number = before + 1; message = post.1 } else None) (rows_for actor (before + 1) posts))
        ≡ messages_of (cons_option (if b then Some record { message = post.1; stamp = 0 } else None) (filter_map (post_for actor) posts))
    by true later = ap (λ (ms : List Message). post.1 ∷ ms) later
    by false later = later

-- they are as many
pub rows_count : (actor before : ℕ) (posts : List (ℕ × Message)) → length (rows_for actor before posts) ≡ length (feed_posts actor (Some posts))
rows_count actor before posts =
    sym (length-map (rows_for actor before posts) (λ (r : Row). r.message)) ∙ ap length (rows_messages actor before posts) ∙ length-map (feed_posts actor (Some posts)) (λ (p : Stamped). p.message)

-- ---- what is left behind an entry

pub taken_none : (source : Source) (before : List Entry) (e : Entry) → same_source e.source source ≡ false → taken_from source (before ++ e ∷ []) ≡ taken_from source before
taken_none source [] e is = ap (λ (b : Bool). cons_option (if b then Some e.message else None) []) is
taken_none source (x ∷ before) e is = ap (cons_option (message_from source x)) (taken_none source before e is)

pub taken_one : (source : Source) (before : List Entry) (e : Entry) → same_source e.source source ≡ true → length (taken_from source (before ++ e ∷ [])) ≡ length (taken_from source before) + 1
taken_one source before e is =
    ap length (taken_with source before [] e (ap (λ (b : Bool). if b then Some e.message else None) is)) ∙ length-append (taken_from source before) (e.message ∷ [])

pub rows_next : (feed : ℕ) (posts : List (ℕ × Message)) (actor : ℕ) (before : List Entry) (e : Entry) → rows_left feed posts actor (before ++ e ∷ []) ≡ left_behind feed (rows_left feed posts actor before) e
rows_next feed posts actor before e = by (same_source e.source (Feed feed)) refl
  where
    by : (b : Bool) → same_source e.source (Feed feed) ≡ b → drop (length (taken_from (Feed feed) (before ++ e ∷ []))) (rows_for actor 0 posts) ≡ left_behind feed (rows_left feed posts actor before) e
    by true is =
        ap (λ (n : ℕ). drop n (rows_for actor 0 posts)) (taken_one (Feed feed) before e is)
        ∙ one_more_gone (rows_for actor 0 posts) (length (taken_from (Feed feed) before))
        ∙ ap (λ (b : Bool). if b then drop 1 (rows_left feed posts actor before) else rows_left feed posts actor before) (sym is)
    by false is =
        ap (λ (ms : List Message). drop (length ms) (rows_for actor 0 posts)) (taken_none (Feed feed) before e is)
        ∙ ap (λ (b : Bool). if b then drop 1 (rows_left feed posts actor before) else rows_left feed posts actor before) (sym is)
