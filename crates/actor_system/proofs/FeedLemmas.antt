-- The posts of a feed from a place on.
use Rattle.std.proofs.Common.{◌≡◌, ◌∙◌, ℕ, zero, suc, ◌+◌, ◌≤◌, List, [], ◌∷◌, length, Bool, true, false, None, Some, slice_get, refl, ap, sym, arith}
use Rattle.std.specs.Prelude.{if◌then◌else◌, ◌==◌}
use Rattle.std.specs.List.{cons_option, filter_map}
use Rattle.join_base.specs.declared.message.Message.{Message}
use Rattle.fair_semantics.specs.Linked.{post_for}
use Rattle.actor_system.specs.Feeding.{IsNext, fed_from}
use Rattle.actor_system.proofs.PlaceLemmas.{same_number}

-- the post at a place, and those behind it
pub from_place : (posts : List (ℕ × Message)) (place actor : ℕ) (post : ℕ × Message) → slice_get posts place ≡ Some post → fed_from posts place actor ≡ cons_option (post_for actor post) (fed_from posts (place + 1) actor)
from_place [] place actor post e = absurd cc
from_place (p ∷ posts) zero actor post e = let same : p ≡ post = cc in ap (λ (q : ℕ × Message). cons_option (post_for actor q) (filter_map (post_for actor) posts)) same
from_place (p ∷ posts) (suc place) actor post e =
    let next : suc place + 1 ≡ suc (place + 1) = omega arith in
    from_place posts place actor post e ∙ ap (λ (n : ℕ). cons_option (post_for actor post) (fed_from (p ∷ posts) n actor)) (sym next)

-- a post for another is passed over
pub passed : (posts : List (ℕ × Message)) (place actor : ℕ) (post : ℕ × Message) → slice_get posts place ≡ Some post → (post.0 == actor) ≡ false → fed_from posts place actor ≡ fed_from posts (place + 1) actor
passed posts place actor post here other =
    from_place posts place actor post here ∙ ap (λ (b : Bool). cons_option (if b then Some record { message = post.1; stamp = 0 } else None) (fed_from posts (place + 1) actor)) other

-- a post for the actor is the next
pub next_at : (posts : List (ℕ × Message)) (from place actor : ℕ) (post : ℕ × Message) → slice_get posts place ≡ Some post → (post.0 == actor) ≡ true → fed_from posts from actor ≡ fed_from posts place actor → IsNext posts from actor place
next_at posts from place actor post here own so_far =
    let to : post.0 ≡ actor = same_number post.0 actor own in
    record {
      message = post.1;
      here = here ∙ ap (λ (n : ℕ). Some (n, post.1)) to;
      waits = so_far ∙ from_place posts place actor post here ∙ ap (λ (b : Bool). cons_option (if b then Some record { message = post.1; stamp = 0 } else None) (fed_from posts (place + 1) actor)) own;
    }

pub none_from : (posts : List (ℕ × Message)) (place actor : ℕ) → length posts ≤ place → fed_from posts place actor ≡ []
none_from [] zero actor l = refl
none_from [] (suc place) actor l = refl
none_from (p ∷ posts) zero actor l = absurd (omega arith)
none_from (p ∷ posts) (suc place) actor l = none_from posts place actor (omega arith)
