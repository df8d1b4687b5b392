-- Links whose first posts were taken, a stamp more, and entries with stamps.
use Rattle.std.proofs.Common.{◌≡◌, ◌∙◌, ℕ, zero, suc, ◌+◌, ◌<◌, ◌≤◌, min, List, [], ◌∷◌, ◌++◌, Bool, true, false, None, Some, length, take, drop, get_or, append_assoc, refl, sym, ap, subst, arith}
use Rattle.std.specs.Prelude.{slice_get, slice_index, slice_set, ◌==◌, if◌then◌else◌}
use Rattle.std.specs.List.{cons_option}
use Rattle.std.proofs.Math.Seq.{drop-nil}
use Rattle.std.proofs.lemmas.Bool.{eqb-true}
use Rattle.std.proofs.lemmas.Bool.Decides.{nat_tests}
use Rattle.std.proofs.lemmas.List.{drop_more, length-set}
use Rattle.join_base.specs.declared.message.Source.{Source}
use Rattle.join_base.specs.declared.message.Source.TheVariants.{Feed, Actor}
use Rattle.join_base.specs.declared.message.Stamped.{Stamped}
use Rattle.fair_semantics.specs.declared.run.Entry.{Entry}
use Rattle.fair_semantics.specs.Fair.{Sent}
use Rattle.fair_semantics.specs.Linked.{arrived, arrived_after, same_source, stamp_at, taken_from}
use Rattle.log_posts.specs.Posts.{stamped_anew}
use Rattle.log_posts.specs.Stamps.{link_at, links_after, next_stamp, posts_from, stamps_behind, with_stamps}

-- ---- a post that was taken from its link

taken_here : (links : List (List Stamped)) (a : ℕ) → link_at (slice_get (slice_set links a (drop 1 (link_at (slice_get links a)))) a) ≡ drop 1 (link_at (slice_get links a))
taken_here [] a = refl
taken_here (posts ∷ links) zero = refl
taken_here (posts ∷ links) (suc a) = taken_here links a

taken_other : (links : List (List Stamped)) (b a : ℕ) (posts : List Stamped) → (b ≡ a → ⊥) → slice_get (slice_set links b posts) a ≡ slice_get links a
taken_other [] b a posts apart = refl
taken_other (first ∷ links) zero zero posts apart = absurd (apart refl)
taken_other (first ∷ links) zero (suc a) posts apart = refl
taken_other (first ∷ links) (suc b) zero posts apart = refl
taken_other (first ∷ links) (suc b) (suc a) posts apart = taken_other links b a posts (λ e. apart (ap suc e))

not_equal : (a b : ℕ) → (a == b) ≡ false → a ≡ b → ⊥
not_equal a b e p = absurd (grind (arith, nat_tests))

-- from its source
after_own : (links : List (List Stamped)) (of source : Source) → same_source of source ≡ true → posts_from (links_after links of) source ≡ drop 1 (posts_from links source)
after_own links (Feed j) (Feed k) is = refl
after_own links (Feed j) (Actor a) is = absurd cc
after_own links (Actor b) (Feed k) is = absurd cc
after_own links (Actor b) (Actor a) is =
    subst (λ (c : ℕ). link_at (slice_get (slice_set links b (drop 1 (link_at (slice_get links b)))) c) ≡ drop 1 (link_at (slice_get links c))) (eqb-true b a is) (taken_here links b)

-- and from another
after_other : (links : List (List Stamped)) (of source : Source) → same_source of source ≡ false → posts_from (links_after links of) source ≡ posts_from links source
after_other links (Feed j) (Feed k) is = refl
after_other links (Feed j) (Actor a) is = refl
after_other links (Actor b) (Feed k) is = refl
after_other links (Actor b) (Actor a) is = ap link_at (taken_other links b a (drop 1 (link_at (slice_get links b))) (not_equal b a is))

behind_first : (posts : List Stamped) (n : ℕ) → slice_get posts (suc n) ≡ slice_get (drop 1 posts) n
behind_first [] n = refl
behind_first (post ∷ posts) n = refl

next_post : (links : List (List Stamped)) (e : Entry) (before : List Entry) (source : Source)
    → slice_get (posts_from links source) (length (taken_from source (e ∷ before))) ≡ slice_get (posts_from (links_after links e.source) source) (length (taken_from source before))
next_post links e before source = by (same_source e.source source) refl
  where
    count : ℕ
    count = length (taken_from source before)

    by : (b : Bool) → same_source e.source source ≡ b
        → slice_get (posts_from links source) (length (cons_option (if b then Some e.message else None) (taken_from source before))) ≡ slice_get (posts_from (links_after links e.source) source) count
    by true is = behind_first (posts_from links source) count ∙ ap (λ (ps : List Stamped). slice_get ps count) (sym (after_own links e.source source is))
    by false is = ap (λ (ps : List Stamped). slice_get ps count) (sym (after_other links e.source source is))

-- what arrives behind an entry is what arrives where its post is gone
arrived_behind : (links : List (List Stamped)) (e : Entry) (before entries : List Entry) → arrived_after (posts_from links) (e ∷ before) entries ≡ arrived_after (posts_from (links_after links e.source)) before entries
arrived_behind links e before [] = refl
arrived_behind links e before (x ∷ entries) =
    λ i. (x.source, record { message = x.message; stamp = stamp_at (next_post links e before x.source i) }) ∷ arrived_behind links e (before ++ x ∷ []) entries i

pub after_many : (links : List (List Stamped)) (source : Source) → length (links_after links source) ≡ length links
after_many links (Feed k) = refl
after_many links (Actor a) = length-set links a (drop 1 (link_at (slice_get links a)))

-- ---- one arrival more

pub stamps_next : (links later : List (List Stamped)) (before stamp carried : ℕ) (entries : List Entry) (i : ℕ) (e : Entry) (done next whole : List ℕ) → i < length entries → e ≡ get_or entries i e
    → carried ≡ stamp_at (slice_get (posts_from links e.source) 0) → stamp ≡ next_stamp before carried → later ≡ links_after links e.source → next ≡ done ++ stamp ∷ []
    → done ++ stamps_behind before (arrived (posts_from links) (drop i entries)) ≡ whole → next ++ stamps_behind stamp (arrived (posts_from later) (drop (i + 1) entries)) ≡ whole
stamps_next links later before stamp carried entries i e done next whole l is by_carried by_stamp by_later more left =
    let rest : List Entry = drop (i + 1) entries in
    let now : ℕ = next_stamp before (stamp_at (slice_get (posts_from links e.source) 0)) in
    let stamp_is : stamp ≡ now = by_stamp ∙ ap (next_stamp before) by_carried in
    let here : drop i entries ≡ e ∷ rest = drop_more entries i e l ∙ ap (λ (x : Entry). x ∷ rest) (sym is) in
    ap (λ (ns : List ℕ). ns ++ stamps_behind stamp (arrived (posts_from later) rest)) more
    ∙ append_assoc done (stamp ∷ []) (stamps_behind stamp (arrived (posts_from later) rest))
    ∙ (λ j. done ++ stamp_is j ∷ stamps_behind (stamp_is j) (arrived (posts_from (by_later j)) rest))
    ∙ ap (λ (sent : List Sent). done ++ now ∷ stamps_behind now sent) (sym (arrived_behind links e [] rest))
    ∙ ap (λ (es : List Entry). done ++ stamps_behind before (arrived (posts_from links) es)) (sym here)
    ∙ left

-- ---- entries with stamps

pub stamped_more : (stamps : List ℕ) (rows initial : List Entry) (place : ℕ) (e : Entry) → place < length rows → place < length stamps → e ≡ get_or rows place e
    → take place rows ++ with_stamps (drop place stamps) (drop place rows) ≡ with_stamps stamps initial
    → take (place + 1) (slice_set rows place (stamped_anew e (slice_index stamps place))) ++ with_stamps (drop (place + 1) stamps) (drop (place + 1) (slice_set rows place (stamped_anew e (slice_index stamps place)))) ≡ with_stamps stamps initial
stamped_more stamps rows initial place e l m is left =
    let new : Entry = stamped_anew e (slice_index stamps place) in
    let stamp_here : drop place stamps ≡ slice_index stamps place ∷ drop (place + 1) stamps = drop_more stamps place 0 m in
    let row_here : drop place rows ≡ e ∷ drop (place + 1) rows = drop_more rows place e l ∙ ap (λ (x : Entry). x ∷ drop (place + 1) rows) (sym is) in
    let rest : List Entry = with_stamps (drop (place + 1) stamps) (drop (place + 1) rows) in
    (λ i. take_set rows place new l i ++ with_stamps (drop (place + 1) stamps) (drop_set rows place new i))
    ∙ append_assoc (take place rows) (new ∷ []) rest
    ∙ (λ i. take place rows ++ with_stamps (sym stamp_here i) (sym row_here i))
    ∙ left
  where
    take_set : (xs : List Entry) (p : ℕ) (x : Entry) → p < length xs → take (p + 1) (slice_set xs p x) ≡ take p xs ++ x ∷ []
    take_set xs p x l = let next : p + 1 ≡ suc p = omega arith in ap (λ (n : ℕ). take n (slice_set xs p x)) next ∙ at xs p l
      where
        at : (ys : List Entry) (q : ℕ) → q < length ys → take (suc q) (slice_set ys q x) ≡ take q ys ++ x ∷ []
        at [] q l = absurd (omega arith)
        at (y ∷ ys) zero l = refl
        at (y ∷ ys) (suc q) l = ap (λ (zs : List Entry). y ∷ zs) (at ys q (omega arith))

    drop_set : (xs : List Entry) (p : ℕ) (x : Entry) → drop (p + 1) (slice_set xs p x) ≡ drop (p + 1) xs
    drop_set xs p x = let next : p + 1 ≡ suc p = omega arith in ap (λ (n : ℕ). drop n (slice_set xs p x)) next ∙ at xs p ∙ ap (λ (n : ℕ). drop n xs) (sym next)
      where
        at : (ys : List Entry) (q : ℕ) → drop (suc q) (slice_set ys q x) ≡ drop (suc q) ys
        at [] q = refl
        at (y ∷ ys) zero = refl
        at (y ∷ ys) (suc q) = at ys q

pub stamped_all : (stamps : List ℕ) (rows : List Entry) (place : ℕ) → min (length rows) (length stamps) ≤ place → take place rows ++ with_stamps (drop place stamps) (drop place rows) ≡ rows
stamped_all [] [] zero l = refl
stamped_all [] [] (suc p) l = refl
stamped_all [] (r ∷ rows) zero l = refl
stamped_all [] (r ∷ rows) (suc p) l = ap (λ (rs : List Entry). r ∷ (take p rows ++ rs)) (ap (λ (ns : List ℕ). with_stamps ns (drop p rows)) (sym (drop-nil p))) ∙ ap (λ (rs : List Entry). r ∷ rs) (stamped_all [] rows p (omega arith))
stamped_all (s ∷ stamps) [] zero l = refl
stamped_all (s ∷ stamps) [] (suc p) l = none (drop p stamps)
  where
    none : (ns : List ℕ) → with_stamps ns [] ≡ []
    none [] = refl
    none (n ∷ ns) = refl
stamped_all (s ∷ stamps) (r ∷ rows) zero l = absurd (omega arith)
stamped_all (s ∷ stamps) (r ∷ rows) (suc p) l = ap (λ (rs : List Entry). r ∷ rs) (stamped_all stamps rows p (omega arith))
