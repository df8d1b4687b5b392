-- The first post of a link, by its entries.
use Rattle.std.proofs.Common.{◌≡◌, ◌∙◌, ℕ, zero, suc, ◌+◌, ◌<◌, List, [], ◌∷◌, ◌++◌, length, drop, get_or, slice_get, refl, sym, ap, arith}
use Rattle.std.specs.Prelude.{None, Some}
use Rattle.std.specs.List.{filter_map, flat_map}
use Rattle.std.proofs.Math.Seq.{drop-nil}
use Rattle.join_base.specs.declared.message.Stamped.{Stamped}
use Rattle.fair_semantics.specs.declared.run.Effect.{Effect}
use Rattle.fair_semantics.specs.declared.run.Entry.{Entry}
use Rattle.fair_semantics.specs.Linked.{effect_for, entry_posts, firing_effects}
use Rattle.log_posts.specs.Posts.{line_stamp, link_posts, stamped_as}

no_lines : (made : List Entry) → stamped_as made [] ≡ made
no_lines [] = refl
no_lines (e ∷ made) = refl

abbrev posts_at : ℕ → Entry → ℕ → List Stamped
posts_at to entry stamp = filter_map (effect_for to stamp) (firing_effects entry.firing)

made_at : (to : ℕ) (made lines : List Entry) (i : ℕ) (e : Entry) → i < length made → e ≡ get_or made i e → link_posts to (drop i made) (drop i lines) ≡ posts_at to e (line_stamp (slice_get lines i) e.stamp) ++ link_posts to (drop (suc i) made) (drop (suc i) lines)
made_at to [] lines i e l is = absurd (omega arith)
made_at to (x ∷ made) [] zero e l is = ap (λ (y : Entry). posts_at to y y.stamp ++ flat_map (entry_posts to) made) (sym is) ∙ ap (λ (es : List Entry). posts_at to e e.stamp ++ flat_map (entry_posts to) es) (sym (no_lines made))
made_at to (x ∷ made) (line ∷ lines) zero e l is = ap (λ (y : Entry). posts_at to y line.stamp ++ link_posts to made lines) (sym is)
made_at to (x ∷ made) [] (suc i) e l is =
    ap (λ (ls : List Entry). link_posts to (drop i made) ls) (sym (drop-nil i)) ∙ made_at to made [] i e (omega arith) is
    ∙ ap (λ (ls : List Entry). posts_at to e e.stamp ++ link_posts to (drop (suc i) made) ls) (drop-nil (suc i))
made_at to (x ∷ made) (line ∷ lines) (suc i) e l is = made_at to made lines i e (omega arith) is

-- the posts from an entry on: those of the entry, and those behind it
pub made_next : (to : ℕ) (made lines : List Entry) (i : ℕ) (e : Entry) (stamp : ℕ) → i < length made → e ≡ get_or made i e → stamp ≡ line_stamp (slice_get lines i) e.stamp
    → link_posts to (drop i made) (drop i lines) ≡ posts_at to e stamp ++ link_posts to (drop (i + 1) made) (drop (i + 1) lines)
made_next to made lines i e stamp l is stamped =
    let next : i + 1 ≡ suc i = omega arith in
    made_at to made lines i e l is
    ∙ ap (λ (s : ℕ). posts_at to e s ++ link_posts to (drop (suc i) made) (drop (suc i) lines)) (sym stamped)
    ∙ ap (λ (n : ℕ). posts_at to e stamp ++ link_posts to (drop n made) (drop n lines)) (sym next)

-- an entry with a post: that is the first one, and behind it come those of the other effects and of the other entries
pub first_here : (to : ℕ) (made lines : List Entry) (i : ℕ) (e : Entry) (stamp : ℕ) (effects effects_left : List Effect) (made_left lines_left : List Entry) (post : Stamped) (whole : List Stamped) → i < length made → e ≡ get_or made i e → stamp ≡ line_stamp (slice_get lines i) e.stamp
    → effects ≡ firing_effects e.firing → filter_map (effect_for to stamp) effects ≡ post ∷ filter_map (effect_for to stamp) effects_left → made_left ≡ drop (i + 1) made → lines_left ≡ drop (i + 1) lines → link_posts to (drop i made) (drop i lines) ≡ whole
    → whole ≡ post ∷ (filter_map (effect_for to stamp) effects_left ++ link_posts to made_left lines_left)
first_here to made lines i e stamp effects effects_left made_left lines_left post whole l is stamped by_effects found by_made by_lines left =
    let rest : List Stamped = link_posts to (drop (i + 1) made) (drop (i + 1) lines) in
    sym left
    ∙ made_next to made lines i e stamp l is stamped
    ∙ ap (λ (es : List Effect). filter_map (effect_for to stamp) es ++ rest) (sym by_effects)
    ∙ ap (λ (ps : List Stamped). ps ++ rest) found
    ∙ (λ j. post ∷ (filter_map (effect_for to stamp) effects_left ++ link_posts to (sym by_made j) (sym by_lines j)))

-- an entry without a post
pub none_here : (to : ℕ) (made lines : List Entry) (i : ℕ) (e : Entry) (stamp : ℕ) (effects : List Effect) (whole : List Stamped) → i < length made → e ≡ get_or made i e → stamp ≡ line_stamp (slice_get lines i) e.stamp
    → effects ≡ firing_effects e.firing → filter_map (effect_for to stamp) effects ≡ [] → link_posts to (drop i made) (drop i lines) ≡ whole → link_posts to (drop (i + 1) made) (drop (i + 1) lines) ≡ whole
none_here to made lines i e stamp effects whole l is stamped by_effects none left =
    let rest : List Stamped = link_posts to (drop (i + 1) made) (drop (i + 1) lines) in
    ap (λ (ps : List Stamped). ps ++ rest) (sym none)
    ∙ ap (λ (es : List Effect). filter_map (effect_for to stamp) es ++ rest) by_effects
    ∙ sym (made_next to made lines i e stamp l is stamped)
    ∙ left

-- ---- posts that were taken

pub one_more_gone : (posts : List Stamped) (count : ℕ) → drop 1 (drop count posts) ≡ drop (count + 1) posts
one_more_gone posts count = let next : count + 1 ≡ suc count = omega arith in at posts count ∙ ap (λ (n : ℕ). drop n posts) (sym next)
  where
    at : (ps : List Stamped) (n : ℕ) → drop 1 (drop n ps) ≡ drop (suc n) ps
    at [] zero = refl
    at [] (suc n) = refl
    at (p ∷ ps) zero = refl
    at (p ∷ ps) (suc n) = at ps n

pub none_left : (posts : List Stamped) → slice_get posts 0 ≡ None → length posts ≡ 0
none_left [] is = refl
none_left (p ∷ ps) is = absurd cc

pub one_left : (posts : List Stamped) (post : Stamped) → slice_get posts 0 ≡ Some post → length (drop 1 posts) + 1 ≡ length posts
one_left [] post is = absurd cc
one_left (p ∷ ps) post is = omega arith
