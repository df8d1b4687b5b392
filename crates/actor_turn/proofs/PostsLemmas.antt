-- Posts that are taken from an outbox, brought back, and put behind the others.
use Rattle.std.proofs.Common.{◌≡◌, ◌≢◌, ◌∙◌, ℕ, zero, suc, ◌+◌, ◌-◌, ◌<◌, ◌≤◌, List, [], ◌∷◌, ◌++◌, map, length, length-append, take, drop, get_or, Bool, true, false, Option, Some, None, refl, sym, ap, subst, arith, append_assoc}
use Rattle.std.specs.Prelude.{◌==◌, Result, Ok, Err, IfSome, OnErr, slice_set, if◌then◌else◌}
use Rattle.std.specs.List.{cons_option, filter_map, flat_map}
use Rattle.std.proofs.lemmas.List.{map-set, append-nil, get_or-set_same, length-map, length-set, set-get_or, set-set, take_at}
use Rattle.std.proofs.Math.Seq.{map-set_same, take-length}
use Rattle.std.proofs.lemmas.Bool.Decides.{nat_tests}
use Rattle.join_base.specs.declared.message.Stamped.{Stamped}
use Rattle.match_tree.specs.Tree.{Tree}
use Rattle.fair_semantics.specs.declared.run.Effect.{Effect}
use Rattle.fair_semantics.specs.declared.run.Effect.TheVariants as effect
use Rattle.fair_semantics.specs.declared.run.Firing.{Firing}
use Rattle.fair_semantics.specs.declared.run.Entry.{Entry}
use Rattle.fair_semantics.specs.Linked.{effect_for, entry_posts, firing_effects}
use Rattle.fair_semantics.specs.Step.{Setting, State}
use Rattle.actor_turn.specs.Held.{Held, History, first_of, posts_behind, posts_for, with_first, without_first}
use Rattle.actor_turn.specs.Outbox.{Queue, is_lent_after}
use Rattle.actor_turn.specs.Sent.{delivered, sent_by}

at_map : {X Y : Type 0} (f : X → Y) (xs : List X) (i : ℕ) (d : X) (e : Y) → i < length xs → get_or (map f xs) i e ≡ f (get_or xs i d)
at_map f [] i d e within = absurd (omega arith)
at_map f (x ∷ xs) zero d e within = refl
at_map f (x ∷ xs) (suc i) d e within = at_map f xs i d e (omega arith)

module _ (setting : Setting) (state : State) (history : History) (trees : List Tree) (boxes : List Queue) (target : ℕ) (d now : Queue) (within : target < length boxes) (is : d ≡ get_or boxes target d) where
  abbrev held : List Queue → Held
  held bs = record { setting = setting; state = state; history = history; trees = trees; outbox = map (λ o. o.posts) bs; lent = map (λ o. o.lent) bs }

  waiting : posts_for (held boxes).outbox target ≡ d.posts
  waiting = at_map (λ (o : Queue). o.posts) boxes target d [] within ∙ ap (λ (o : Queue). o.posts) (sym is)

  -- the first post is taken
  pub taken_is : now.posts ≡ drop 1 d.posts → now.lent ≡ is_lent_after d.posts d.lent → held (slice_set boxes target now) ≡ without_first (held boxes) target (posts_for (held boxes).outbox target)
  taken_is posts lent = by d.posts refl ∙ ap (without_first (held boxes) target) (sym waiting)
    where
      by : (ps : List Stamped) → d.posts ≡ ps → held (slice_set boxes target now) ≡ without_first (held boxes) target ps
      by [] e =
          let same_posts : now.posts ≡ d.posts = posts ∙ ap (drop 1) e ∙ sym e in
          let same_lent : now.lent ≡ d.lent = lent ∙ ap (λ (ps : List Stamped). is_lent_after ps d.lent) e in
          let outbox = map-set_same (λ (o : Queue). o.posts) boxes target now d (same_posts ∙ ap (λ (o : Queue). o.posts) is) in
          let kept = map-set_same (λ (o : Queue). o.lent) boxes target now d (same_lent ∙ ap (λ (o : Queue). o.lent) is) in
          λ i. record { setting = setting; state = state; history = history; trees = trees; outbox = outbox i; lent = kept i }
      by (p ∷ ps) e =
          let first : now.posts ≡ ps = posts ∙ ap (drop 1) e in
          let kept : now.lent ≡ true = lent ∙ ap (λ (qs : List Stamped). is_lent_after qs d.lent) e in
          let outbox = map-set (λ (o : Queue). o.posts) boxes target now ∙ ap (slice_set (map (λ (o : Queue). o.posts) boxes) target) first in
          let lents = map-set (λ (o : Queue). o.lent) boxes target now ∙ ap (slice_set (map (λ (o : Queue). o.lent) boxes) target) kept in
          λ i. record { setting = setting; state = state; history = history; trees = trees; outbox = outbox i; lent = lents i }

  -- it is brought back
  pub returned_is : (post : Stamped) → now.posts ≡ post ∷ d.posts → now.lent ≡ false → held (slice_set boxes target now) ≡ with_first (held boxes) target post
  returned_is post posts lent =
      let outbox = map-set (λ (o : Queue). o.posts) boxes target now ∙ ap (slice_set (map (λ (o : Queue). o.posts) boxes) target) (posts ∙ ap (λ (ps : List Stamped). post ∷ ps) (sym waiting)) in
      let lents = map-set (λ (o : Queue). o.lent) boxes target now ∙ ap (slice_set (map (λ (o : Queue). o.lent) boxes) target) lent in
      λ i. record { setting = setting; state = state; history = history; trees = trees; outbox = outbox i; lent = lents i }

-- ---- room, and posts that are delivered

abbrev pub all_posts : List Queue → List (List Stamped)
all_posts boxes = map (λ o. o.posts) boxes

abbrev all_lent : List Queue → List Bool
all_lent boxes = map (λ o. o.lent) boxes

-- a box whose posts are as before
pub posts_kept : (boxes : List Queue) (i : ℕ) (d now : Queue) → now.posts ≡ (get_or boxes i d).posts → map (λ o. o.posts) (slice_set boxes i now) ≡ map (λ o. o.posts) boxes
posts_kept boxes i d now e = map-set_same (λ (o : Queue). o.posts) boxes i now d e

pub lent_kept : (boxes : List Queue) (i : ℕ) (d now : Queue) → now.lent ≡ (get_or boxes i d).lent → map (λ o. o.lent) (slice_set boxes i now) ≡ map (λ o. o.lent) boxes
lent_kept boxes i d now e = map-set_same (λ (o : Queue). o.lent) boxes i now d e

-- what holds anyway holds where there is an error
pub on_err : {A E P : Type 0} (r : Result A E) → P → OnErr r P
on_err (Ok a) p = tt
on_err (Err e) p = p

-- one post is delivered
pub delivered_one : (target : ℕ) (post : Stamped) (boxes : List Queue) (d now : Queue) (rest : List (ℕ × Stamped)) → target < length boxes → now.posts ≡ (get_or boxes target d).posts ++ post ∷ []
    → delivered rest (all_posts (slice_set boxes target now)) ≡ delivered ((target, post) ∷ rest) (all_posts boxes)
delivered_one target post boxes d now rest within made =
    let waiting : posts_for (all_posts boxes) target ≡ (get_or boxes target d).posts = at_map (λ (o : Queue). o.posts) boxes target d [] within in
    ap (delivered rest) (map-set (λ (o : Queue). o.posts) boxes target now ∙ ap (slice_set (all_posts boxes) target) (made ∙ ap (λ (ps : List Stamped). ps ++ post ∷ []) (sym waiting)))

-- a post that was put behind the others is taken out again
pub unsent : (target : ℕ) (post : Stamped) (boxes others : List Queue) (d now e last : Queue) → target < length boxes → now.posts ≡ (get_or boxes target d).posts ++ post ∷ []
    → all_posts others ≡ all_posts (slice_set boxes target now) → last.posts ≡ take (length (get_or others target e).posts - 1) (get_or others target e).posts → all_posts (slice_set others target last) ≡ all_posts boxes
unsent target post boxes others d now e last within made same taken =
    let old : List (List Stamped) = all_posts boxes in
    let before : List Stamped = (get_or boxes target d).posts in
    let found : List Stamped = (get_or others target e).posts in
    let told : all_posts others ≡ slice_set old target now.posts = same ∙ map-set (λ (o : Queue). o.posts) boxes target now in
    let count = length-map boxes (λ (o : Queue). o.posts) in
    let within_old : target < length old = omega arith in
    let counts : length (all_posts others) ≡ length old = ap length told ∙ length-set old target now.posts in
    let within_others : target < length others = omega (arith, length-map others (λ (o : Queue). o.posts)) in
    let was : before ≡ posts_for old target = sym (at_map (λ (o : Queue). o.posts) boxes target d [] within) in
    let found_is : found ≡ before ++ post ∷ [] =
    sym (at_map (λ (o : Queue). o.posts) others target e [] within_others) ∙ ap (λ (os : List (List Stamped)). posts_for os target) told
    ∙ get_or-set_same old target now.posts [] within_old ∙ made in
    let long : length found ≡ length before + 1 = ap length found_is ∙ length-append before (post ∷ []) in
    let left : last.posts ≡ before = taken ∙ ap (take (length found - 1)) found_is ∙ take_at before (post ∷ []) (length found - 1) (omega arith) in
    map-set (λ (o : Queue). o.posts) others target last
    ∙ (λ i. slice_set (told i) target (left i))
    ∙ set-set old target now.posts before
    ∙ ap (slice_set old target) was
    ∙ set-get_or old target []

-- the first of some effects, and the others
pub first_effect : (effects : List Effect) (first : Effect) → 1 ≤ length effects → first ≡ get_or effects 0 first → effects ≡ first ∷ take (length effects - 1) (drop 1 effects)
first_effect [] first some is = absurd (omega arith)
first_effect (e ∷ effects) first some is =
    let count : length (e ∷ effects) - 1 ≡ length effects = omega arith in
    let others : take (length (e ∷ effects) - 1) effects ≡ effects = ap (λ (n : ℕ). take n effects) count ∙ take-length effects in
    λ i. sym is i ∷ sym others i

-- ---- delivered posts stand behind the others

-- the posts of an entry's effects for an actor
abbrev effects_for : ℕ → ℕ → List Effect → List Stamped
effects_for target stamp effects = filter_map (effect_for target stamp) effects

-- each actor's list with what f gives for it behind; the first list is for the actor of this number
abbrev with_behind : ℕ → (ℕ → List Stamped) → List (List Stamped) → List (List Stamped)
with_behind from f [] = []
with_behind from f (posts ∷ others) = (posts ++ f from) ∷ with_behind (from + 1) f others

behind_same : (from : ℕ) (f g : ℕ → List Stamped) → ((t : ℕ) → from ≤ t → f t ≡ g t) → (outbox : List (List Stamped)) → with_behind from f outbox ≡ with_behind from g outbox
behind_same from f g same [] = refl
behind_same from f g same (posts ∷ others) =
    let here = same from (omega arith) in
    let later = behind_same (from + 1) f g (λ t l. same t (omega arith)) others in
    λ i. (posts ++ here i) ∷ later i

behind_one : (from k target : ℕ) (post : Stamped) (f g : ℕ → List Stamped) → target ≡ from + k → ((t : ℕ) → t ≢ target → f t ≡ g t) → post ∷ f target ≡ g target → (outbox : List (List Stamped))
    → with_behind from f (slice_set outbox k (posts_for outbox k ++ post ∷ [])) ≡ with_behind from g outbox
behind_one from k target post f g at others own [] = refl
behind_one from zero target post f g at others own (posts ∷ rest) =
    let is : target ≡ from = omega arith in
    let here : (posts ++ post ∷ []) ++ f from ≡ posts ++ g from = append_assoc posts (post ∷ []) (f from) ∙ ap (λ (ps : List Stamped). posts ++ ps) (subst (λ (t : ℕ). post ∷ f t ≡ g t) is own) in
    let later = behind_same (from + 1) f g (λ t l. others t (λ e. omega arith)) rest in
    λ i. here i ∷ later i
behind_one from (suc k) target post f g at others own (posts ∷ rest) =
    let here = others from (λ e. omega arith) in
    let later = behind_one (from + 1) k target post f g (omega arith) others own rest in
    λ i. (posts ++ here i) ∷ later i

-- the post, if it is for the actor
abbrev to_for : ℕ → (ℕ × Stamped) → Option Stamped
to_for target sent = if sent.0 == target then Some sent.1 else None

abbrev all_for : List (ℕ × Stamped) → ℕ → List Stamped
all_for sent target = filter_map (to_for target) sent

itself : (n : ℕ) → (n == n) ≡ true
itself n = grind (arith, nat_tests)

differs : (n t : ℕ) → t ≢ n → (n == t) ≡ false
differs n t d = by (n == t) refl
  where
    by : (b : Bool) → (n == t) ≡ b → (n == t) ≡ false
    by true e = let same : n ≡ t = grind (arith, nat_tests, e) in absurd (d (sym same))
    by false e = e

own_for : (sent : ℕ × Stamped) (more : List (ℕ × Stamped)) → sent.1 ∷ all_for more sent.0 ≡ all_for (sent ∷ more) sent.0
own_for sent more = rw (itself sent.0) refl

other_for : (sent : ℕ × Stamped) (more : List (ℕ × Stamped)) (t : ℕ) → t ≢ sent.0 → all_for more t ≡ all_for (sent ∷ more) t
other_for sent more t d = rw (differs sent.0 t d) refl

pub delivered_behind : (sent : List (ℕ × Stamped)) (outbox : List (List Stamped)) → delivered sent outbox ≡ with_behind 0 (all_for sent) outbox
delivered_behind [] outbox = sym (nothing 0 outbox)
  where
    nothing : (from : ℕ) (os : List (List Stamped)) → with_behind from (all_for []) os ≡ os
    nothing from [] = refl
    nothing from (ps ∷ os) = let e = append-nil ps in let r = nothing (from + 1) os in λ i. e i ∷ r i
delivered_behind (s ∷ more) outbox =
    delivered_behind more (slice_set outbox s.0 (posts_for outbox s.0 ++ s.1 ∷ []))
    ∙ behind_one 0 s.0 s.0 s.1 (all_for more) (all_for (s ∷ more)) (omega arith) (λ t d. other_for s more t d) (own_for s more) outbox

-- the posts of effects, by target
effects_sent : (target stamp : ℕ) (effects : List Effect) → all_for (sent_by stamp effects) target ≡ effects_for target stamp effects
effects_sent target stamp [] = refl
effects_sent target stamp (effect.Print line ∷ more) = effects_sent target stamp more
effects_sent target stamp (effect.Reply number value ∷ more) = effects_sent target stamp more
effects_sent target stamp (effect.Post to message ∷ more) = by (to == target) (effects_sent target stamp more)
  where
    post : Stamped
    post = record { message = message; stamp = stamp }

    by : (b : Bool) → all_for (sent_by stamp more) target ≡ effects_for target stamp more → cons_option (if b then Some post else None) (all_for (sent_by stamp more) target) ≡ cons_option (if b then Some post else None) (effects_for target stamp more)
    by true e = ap (λ (ps : List Stamped). post ∷ ps) e
    by false e = e

entries_behind : (from : ℕ) (entries : List Entry) (outbox : List (List Stamped)) → posts_behind from entries outbox ≡ with_behind from (λ t. flat_map (entry_posts t) entries) outbox
entries_behind from entries [] = refl
entries_behind from entries (ps ∷ os) = ap (λ (rest : List (List Stamped)). (ps ++ flat_map (entry_posts from) entries) ∷ rest) (entries_behind (from + 1) entries os)

-- the posts of a firing stand behind the others, each with the stamp of the entry
pub fired_posts : (entry : Entry) (firing : Firing) (stamp : ℕ) (outbox : List (List Stamped)) → entry.firing ≡ Some firing → stamp ≡ entry.stamp → delivered (sent_by stamp firing.effects) outbox ≡ posts_behind 0 (entry ∷ []) outbox
fired_posts entry firing stamp outbox fired stamped =
    delivered_behind (sent_by stamp firing.effects) outbox
    ∙ behind_same 0 (all_for (sent_by stamp firing.effects)) (λ t. flat_map (entry_posts t) (entry ∷ []))
    (λ t l. effects_sent t stamp firing.effects ∙ ap (λ (n : ℕ). effects_for t n firing.effects) stamped ∙ ap (λ (o : Option Firing). filter_map (effect_for t entry.stamp) (firing_effects o)) (sym fired) ∙ sym (append-nil (entry_posts t entry))) outbox
    ∙ sym (entries_behind 0 (entry ∷ []) outbox)

-- an entry that fired nothing posts nothing
pub unfired_posts : (from : ℕ) (entry : Entry) (outbox : List (List Stamped)) → entry.firing ≡ None → outbox ≡ posts_behind from (entry ∷ []) outbox
unfired_posts from entry [] none = refl
unfired_posts from entry (ps ∷ os) none =
    let nothing : entry_posts from entry ≡ [] = ap (λ (o : Option Firing). filter_map (effect_for from entry.stamp) (firing_effects o)) none in
    let here : ps ≡ ps ++ (entry_posts from entry ++ []) = sym (append-nil ps) ∙ ap (λ (qs : List Stamped). ps ++ (qs ++ [])) (sym nothing) in
    let later = unfired_posts (from + 1) entry os none in
    λ i. here i ∷ later i

-- where no entry is new, nothing is posted
pub no_posts : (from : ℕ) (outbox : List (List Stamped)) → outbox ≡ posts_behind from [] outbox
no_posts from [] = refl
no_posts from (ps ∷ os) = let here = append-nil ps in let later = no_posts (from + 1) os in λ i. sym here i ∷ later i

-- as many lists as before
pub length-posts_behind : (from : ℕ) (entries : List Entry) (outbox : List (List Stamped)) → length (posts_behind from entries outbox) ≡ length outbox
length-posts_behind from entries [] = refl
length-posts_behind from entries (ps ∷ os) = ap suc (length-posts_behind (from + 1) entries os)

-- a post that was taken may be brought back
at_set : (boxes : List Queue) (i : ℕ) (now : Queue) → i < length boxes → get_or (map (λ (o : Queue). o.lent) (slice_set boxes i now)) i false ≡ now.lent
at_set [] i now within = absurd (omega arith)
at_set (b ∷ boxes) zero now within = refl
at_set (b ∷ boxes) (suc i) now within = at_set boxes i now (omega arith)

pub taken_lent : (boxes : List Queue) (target : ℕ) (d now : Queue) (result : Option Stamped) → target < length boxes → result ≡ first_of d.posts → now.lent ≡ is_lent_after d.posts d.lent → IfSome result (λ post. get_or (map (λ (o : Queue). o.lent) (slice_set boxes target now)) target false ≡ true)
taken_lent boxes target d now result within first lent = by d.posts result first lent
  where
    by : (posts : List Stamped) (r : Option Stamped) → r ≡ first_of posts → now.lent ≡ is_lent_after posts d.lent → IfSome r (λ post. get_or (map (λ (o : Queue). o.lent) (slice_set boxes target now)) target false ≡ true)
    by posts None e is = tt
    by [] (Some p) e is = absurd cc
    by (q ∷ posts) (Some p) e is = at_set boxes target now within ∙ is
