-- Links over which posts were sent as far as there is room.
use Rattle.std.proofs.Common.{◌≡◌, ◌∙◌, ℕ, zero, suc, ◌+◌, ◌<◌, ◌≤◌, List, [], ◌∷◌, length, map, get_or, set, Bool, true, false, refl, ap, sym, subst, inl, inr, ⊎_elim, arith}
use Rattle.std.specs.Prelude.{◌==◌, slice_get, Some}
use Rattle.std.specs.List.{AllByRecursion}
use Rattle.std.proofs.lemmas.Bool.Decides.{nat_tests}
use Rattle.std.proofs.lemmas.Option.{slice_get_within, slice_get-get_or}
use Rattle.join_base.specs.declared.message.Stamped.{Stamped}
use Rattle.post_ring.specs.declared.link_in.LinkIn.{LinkIn}
use Rattle.post_ring.specs.Links.{room}
use Rattle.actor_turn.specs.Held.{Held, posts_for}
use Rattle.cell_links.specs.declared.ends.Outward.{Outward}
use Rattle.actor_cells.specs.declared.cell.Cell.{Cell}
use Rattle.actor_cells.specs.Lawful.{AreDistinct, IsLawful, held_in}
use Rattle.actor_cells.specs.Served.{AllSent, IsSent}
use Rattle.actor_cells.specs.Steps.{FirstSent, Moves}
use Rattle.actor_cells.proofs.LinkLemmas.{is-itself, same-number, target_of, targets-are}

-- the link at another place has another target
other-target : (t : ℕ) (ws : List Outward) (k : ℕ) (w : Outward) → AllByRecursion (λ u. (u == t) ≡ false) (map target_of ws) → slice_get ws k ≡ Some w → (w.target == t) ≡ false
other-target t [] k w each there = absurd cc
other-target t (v ∷ ws) zero w each there = let e : v ≡ w = cc in subst (λ (o : Outward). (o.target == t) ≡ false) e each.0
other-target t (v ∷ ws) (suc k) w each there = other-target t ws k w each.1 there

unequal : (j k : ℕ) → (j == k) ≡ false → ¬ (j ≡ k)
unequal j k e same = let clash : true ≡ false = sym (is-itself k) ∙ ap (λ (n : ℕ). n == k) (sym same) ∙ e in cc

apart-targets : (ws : List Outward) (j k : ℕ) (v w : Outward) → AreDistinct (map target_of ws) → slice_get ws j ≡ Some v → slice_get ws k ≡ Some w → ¬ (j ≡ k) → ¬ (v.target ≡ w.target)
apart-targets [] j k v w distinct here there other = absurd cc
apart-targets (u ∷ ws) zero zero v w distinct here there other = absurd (other refl)
apart-targets (u ∷ ws) zero (suc k) v w distinct here there other =
    let e : u ≡ v = cc in λ same. unequal w.target u.target (other-target u.target ws k w distinct.0 there) (sym same ∙ ap (λ (o : Outward). o.target) (sym e))
apart-targets (u ∷ ws) (suc j) zero v w distinct here there other =
    let e : u ≡ w = cc in λ same. unequal v.target u.target (other-target u.target ws j v distinct.0 here) (same ∙ ap (λ (o : Outward). o.target) (sym e))
apart-targets (u ∷ ws) (suc j) (suc k) v w distinct here there other = apart-targets ws j k v w distinct.1 here there (λ same. other (ap suc same))

-- a list after a link of it was set
at-set : (ws : List Outward) (k : ℕ) (w v : Outward) → slice_get (set ws k w) k ≡ Some v → w ≡ v
at-set [] k w v there = absurd cc
at-set (u ∷ ws) zero w v there = cc
at-set (u ∷ ws) (suc k) w v there = at-set ws k w v there

at-other : (ws : List Outward) (j k : ℕ) (w : Outward) → ¬ (j ≡ k) → slice_get (set ws k w) j ≡ slice_get ws j
at-other [] j k w other = refl
at-other (u ∷ ws) zero zero w other = absurd (other refl)
at-other (u ∷ ws) zero (suc k) w other = refl
at-other (u ∷ ws) (suc j) zero w other = refl
at-other (u ∷ ws) (suc j) (suc k) w other = at-other ws j k w (λ same. other (ap suc same))

-- where posts were sent over the link at a place, the earlier links stay as they were
pub sent-more : (c : Cell) (held : Held) (k : ℕ) (w : Outward) (l : LinkIn) → IsLawful c → k < length c.outward.items → get_or c.outward.items k w ≡ w → Moves w.target (held_in c) held w.link l → IsSent w.target held l
    → FirstSent k (held_in c) c.outward.items → FirstSent (k + 1) held (set c.outward.items k (record w { link = l }))
sent-more c held k w l lawful within is moves sent before j v below there = by (j == k) refl
  where
    here : slice_get c.outward.items k ≡ Some w
    here = slice_get-get_or c.outward.items k w within ∙ ap Some is

    now : Outward
    now = record w { link = l }

    earlier : ¬ (j ≡ k) → IsSent v.target held v.link
    earlier other =
        let was : slice_get c.outward.items j ≡ Some v = sym (at-other c.outward.items j k now other) ∙ there in
        let apart = apart-targets c.outward.items j k v w (subst AreDistinct (targets-are c.outward.items) lawful.tag.distinct) was here other in
        ⊎_elim
        (λ (none : posts_for (held_in c).outbox v.target ≡ []). inl (moves.others v.target apart ∙ none))
        (λ (full : room v.link ≡ 0). inr full)
        (before j v (omega (arith, below, other)) was)

    by : (b : Bool) → (j == k) ≡ b → IsSent v.target held v.link
    by true e =
        let same : now ≡ v = at-set c.outward.items k now v (ap (λ (n : ℕ). slice_get (set c.outward.items k now) n) (sym (same-number j k e)) ∙ there) in
        subst (λ (o : Outward). IsSent o.target held o.link) same sent
    by false e = earlier (unequal j k e)

-- the first links are all
pub all-sent : (c : Cell) (count : ℕ) → length c.outward.items ≤ count → FirstSent count (held_in c) c.outward.items → AllSent c
all-sent c count all first place w there = let within = slice_get_within c.outward.items place w there in first place w (omega (arith, within, all)) there

-- the same links and outboxes
pub still-sent : (c after : Cell) → after.outward ≡ c.outward → held_in after ≡ held_in c → AllSent c → AllSent after
still-sent c after outward held sent place w there =
    subst (λ (h : Held). IsSent w.target h w.link) (sym held) (sent place w (ap (λ ws. slice_get ws.items place) (sym outward) ∙ there))
