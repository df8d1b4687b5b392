-- A message that is taken, handed over to the actor, and given back where it was refused.
use Rattle.std.proofs.Common.{◌≡◌, ◌∙◌, ℕ, zero, suc, ◌<◌, List, [], ◌∷◌, ◌++◌, length, map, get_or, set, Option, Some, None, refl, ap, sym, subst, arith}
use Rattle.std.specs.Prelude.{Result, Ok, Err, IfOk, OnErr, MatchOption, true, slice_get}
use mathlib.Core.List.{IsSuffix}
use Rattle.join_base.specs.declared.items.NoMemory.{NoMemory}
use Rattle.join_base.specs.declared.message.Stamped.{Stamped}
use Rattle.join_base.specs.Late.{HasCount}
use Rattle.fair_semantics.specs.declared.run.Outcome.{Outcome}
use Rattle.actor_turn.specs.Held.{Held, is_taken}
use Rattle.post_ring.specs.declared.link_out.LinkOut.{LinkOut}
use Rattle.post_ring.specs.Links.{received, waiting}
use Rattle.post_ring.specs.Looks.{IsTake, Returns, Takes}
use Rattle.cell_links.specs.declared.ends.Inward.{Inward}
use Rattle.actor_cells.specs.declared.cell.Cell.{Cell}
use Rattle.actor_cells.specs.declared.cell.LinkTally.{LinkTally}
use Rattle.actor_cells.specs.Lawful.{IsLawful, held_in, link_tally, state_in}
use Rattle.actor_cells.specs.Served.{StaysLawful, IsRefusing}
use Rattle.actor_cells.specs.Steps.{Brings, FindsNone, Refuses, changed_at, one_look, one_received}
use Rattle.actor_cells.proofs.CellLemmas.{brought, known-here, looked}
use Rattle.actor_cells.proofs.LinkLemmas.{has_count}
use Rattle.actor_cells.proofs.TallyLemmas.{tally-set}
use Rattle.std.proofs.lemmas.List.{append_cancel_right, length-append}

-- ---- takes

pub taken : (a d : LinkOut) (m : Stamped) (found : Option Stamped) → found ≡ Some m → Takes a d found → IsTake a d m
taken a d m found is takes = subst (Takes a d) is takes

-- the message that was taken is the last of those received, and comes back with the same fields
pub last-of : (a d : LinkOut) (m n : Stamped) → IsTake a d m → n ≡ m → IsSuffix (n ∷ []) (received d)
last-of a d m n took same = (received a, (λ i. received a ++ same i ∷ []) ∙ sym took.taken)

-- a message that was taken, refused and given back
pub refuses : (before after : Held) (a d e : LinkOut) (m n : Stamped) → IsTake a d m → n ≡ m → Returns d e n → after ≡ before → is_taken before.setting before.state m.message m.stamp ≡ true → Refuses before after a e
refuses before after a d e m n took same back held is = record {
  identity = back.identity ∙ took.identity;
  took = append_cancel_right (received e) (received a) (n ∷ []) (back.taken ∙ took.taken ∙ (λ i. received a ++ sym same i ∷ []));
  looks = back.looks ∙ took.looks;
  same = held;
  message = m;
  first = (waiting d, (λ i. sym same i ∷ waiting d) ∙ sym back.first);
  taken = is;
}

-- ---- one link of a cell

get-set : (ws : List Inward) (k : ℕ) (w : Inward) → k < length ws → slice_get (set ws k w) k ≡ Some w
get-set [] k w within = absurd (omega arith)
get-set (v ∷ ws) zero w within = refl
get-set (v ∷ ws) (suc k) w within = get-set ws k w (omega arith)

module _ (c after : Cell) (k : ℕ) (w : Inward) (l : LinkOut) (lawful : IsLawful c) (within : k < length c.inward.items) (here : get_or c.inward.items k w ≡ w)
    (inward : after.inward.items ≡ set c.inward.items k (record w { link = l })) (outward : after.outward.items ≡ c.outward.items) (before : Held) (was : before ≡ held_in c) where
  abbrev pub Found : Option Outcome → Type 0
  Found found = MatchOption found (FindsNone before (held_in after) w.link l) (λ outcome. Brings w.source before (held_in after) w.link l)

  pub kept : (result : Result (Option Outcome) NoMemory) → IfOk result Found → OnErr result (Refuses before (held_in after) w.link l) → StaysLawful c after
  kept (Ok (Some outcome)) found refused = brought c after k w l lawful within here inward outward found.identity (subst (λ (h : Held). Brings w.source h (held_in after) w.link l) was found)
  kept (Ok None) found refused = looked c after k w l lawful within here inward outward found.identity (found.same ∙ was) found.took
  kept (Err e) found refused = looked c after k w l lawful within here inward outward refused.identity (refused.same ∙ was) refused.took

  pub refusing : (result : Result (Option Outcome) NoMemory) → OnErr result (Refuses before (held_in after) w.link l) → OnErr result (IsRefusing after)
  refusing (Ok found) refused = tt
  refusing (Err e) refused = record {
    place = k;
    link = record w { link = l };
    message = refused.message;
    here = ap (λ (ws : List Inward). slice_get ws k) inward ∙ get-set c.inward.items k (record w { link = l }) within;
    first = refused.first;
    taken = ap (λ (h : Held). is_taken h.setting h.state refused.message.message refused.message.stamp) refused.same ∙ refused.taken;
  }

-- a late count is kept of the link's source
pub counted-here : (c : Cell) (k : ℕ) (w : Inward) → IsLawful c → k < length c.inward.items → get_or c.inward.items k w ≡ w → HasCount (state_in c).late w.source
counted-here c k w lawful within here = has_count (state_in c).late w.source (known-here c c k w w.link lawful within here (same c.inward.items k w here) refl refl)
  where
    same : (ws : List Inward) (k : ℕ) (w : Inward) → get_or ws k w ≡ w → ws ≡ set ws k w
    same [] k w e = refl
    same (v ∷ ws) zero w e = ap (λ (o : Inward). o ∷ ws) e
    same (v ∷ ws) (suc k) w e = ap (λ (os : List Inward). v ∷ os) (same ws k w e)

-- ---- the tally

module _ (ws : List Inward) (before after : Held) (k : ℕ) (w : Inward) (l : LinkOut) (here : get_or ws k w ≡ w) where
  tallied : (change : LinkTally → LinkTally) → link_tally (record w { link = l }) ≡ change (link_tally w) → map link_tally (set ws k (record w { link = l })) ≡ changed_at change (map link_tally ws) k
  tallied change is = tally-set change ws k w l here is

  pub tally : (result : Result (Option Outcome) NoMemory) → IfOk result (λ found. MatchOption found (FindsNone before after w.link l) (λ outcome. Brings w.source before after w.link l))
      → IfOk result (λ found. MatchOption found (map link_tally (set ws k (record w { link = l })) ≡ changed_at one_look (map link_tally ws) k) (λ outcome. map link_tally (set ws k (record w { link = l })) ≡ changed_at one_received (map link_tally ws) k))
  tally (Ok (Some outcome)) found = tallied one_received (λ i. record { received = (ap length found.took ∙ length-append (received w.link) (found.message ∷ [])) i; empty_looks = found.looks i })
  tally (Ok None) found = tallied one_look (λ i. record { received = length (found.took i); empty_looks = found.looks i })
  tally (Err e) found = tt
