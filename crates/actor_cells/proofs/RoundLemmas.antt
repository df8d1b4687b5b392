-- Rounds over the inward links.
use Rattle.std.proofs.Common.{◌≡◌, ◌∙◌, ℕ, ◌+◌, ◌<◌, ◌≤◌, List, length, map, Bool, true, false, refl, ap, sym, subst, arith}
use Rattle.std.specs.Prelude.{MatchBool}
use Rattle.std.proofs.lemmas.List.{length-map}
use Rattle.actor_cells.specs.declared.cell.Cell.{Cell}
use Rattle.actor_cells.specs.declared.cell.LinkTally.{LinkTally}
use Rattle.actor_cells.specs.Lawful.{IsLawful, link_tally, tally_of}
use Rattle.actor_cells.specs.Served.{StaysLawful, LooksRose, all_received}
use Rattle.actor_cells.specs.Steps.{LooksStay, TakesMany, changed_at, looked_first, one_look, one_received}
use Rattle.actor_cells.proofs.CellLemmas.{kept-refl, kept-trans, prefix-refl}
use Rattle.actor_cells.proofs.TallyLemmas.{length-changed, looked-all, looked-more, received-look, received-one, stay-look, stay-received, stay-refl, stay-trans}

-- ---- what is taken

pub takes-none : (tally : List LinkTally) → TakesMany tally tally 0
takes-none tally = record { took = omega arith; stay = stay-refl tally; count = refl }

pub takes-trans : (a b c : List LinkTally) (m n : ℕ) → TakesMany a b m → TakesMany b c n → TakesMany a c (m + n)
takes-trans a b c m n p q =
    let one = p.took in
    let two = q.took in
    record { took = omega (arith, one, two); stay = stay-trans a b c p.stay q.stay; count = q.count ∙ p.count }

-- the link at a place was looked at
abbrev pub Tallied : List LinkTally → List LinkTally → ℕ → Bool → Type 0
Tallied before after place found = MatchBool found (after ≡ changed_at one_received before place) (after ≡ changed_at one_look before place)

pub takes-one : (before after : List LinkTally) (place : ℕ) → place < length before → after ≡ changed_at one_received before place → TakesMany before after 1
takes-one before after place within is = record {
  took = ap all_received is ∙ received-one before place within;
  stay = subst (LooksStay before) (sym is) (stay-received before place);
  count = ap length is ∙ length-changed one_received before place;
}

pub takes-look : (before after : List LinkTally) (place : ℕ) → after ≡ changed_at one_look before place → TakesMany before after 0
takes-look before after place is =
    let same = ap all_received is ∙ received-look before place in
    record {
      took = omega (arith, same);
      stay = subst (LooksStay before) (sym is) (stay-look before place);
      count = ap length is ∙ length-changed one_look before place;
    }

-- it showed nothing
pub tallied-none : (before after : List LinkTally) (place : ℕ) (found : Bool) → found ≡ false → Tallied before after place found → after ≡ changed_at one_look before place
tallied-none before after place true e t = absurd cc
tallied-none before after place false e t = t

-- its message was taken
pub tallied-one : (before after : List LinkTally) (place : ℕ) (found : Bool) → found ≡ true → Tallied before after place found → after ≡ changed_at one_received before place
tallied-one before after place true e t = t
tallied-one before after place false e t = absurd cc

-- and then so many more
pub takes-behind : (a b c : List LinkTally) (place more : ℕ) → place < length a → b ≡ changed_at one_received a place → TakesMany b c more → TakesMany a c (more + 1)
takes-behind a b c place more within is takes = subst (TakesMany a c) (let e : 1 + more ≡ more + 1 = omega arith in e) (takes-trans a b c 1 more (takes-one a b place within is) takes)

pub tally-within : (c : Cell) (place : ℕ) → place < length c.inward.items → place < length (tally_of c)
tally-within c place l = let a = length-map c.inward.items link_tally in omega (arith, l, a)

-- ---- posts to itself, so many of which were taken from the link at a place
pub record Own (c now : Cell) (place taken : ℕ) : Type 0 where
  pub kept : StaysLawful c now
  pub takes : TakesMany (tally_of c) (tally_of now) taken
  pub within : place < length now.inward.items

pub own-first : (c : Cell) (place : ℕ) → IsLawful c → place < length c.inward.items → Own c c place 0
own-first c place lawful within = record { kept = kept-refl c lawful; takes = takes-none (tally_of c); within = within }

pub own-more : (c now next : Cell) (place taken : ℕ) → Own c now place taken → StaysLawful now next → tally_of next ≡ changed_at one_received (tally_of now) place → Own c next place (taken + 1)
own-more c now next place taken o kept is =
    let one = takes-one (tally_of now) (tally_of next) place (tally-within now place o.within) is in
    let a = length-map now.inward.items link_tally in
    let b = length-map next.inward.items link_tally in
    let count = one.count in
    let within = o.within in
    record {
      kept = kept-trans c now next o.kept kept;
      takes = takes-trans (tally_of c) (tally_of now) (tally_of next) taken 1 o.takes one;
      within = omega (arith, within, a, b, count);
    }

pub own-end : (c now next : Cell) (place taken : ℕ) → Own c now place taken → tally_of next ≡ changed_at one_look (tally_of now) place → TakesMany (tally_of c) (tally_of next) taken
own-end c now next place taken o is =
    subst (TakesMany (tally_of c) (tally_of next)) (let e : taken + 0 ≡ taken = omega arith in e) (takes-trans (tally_of c) (tally_of now) (tally_of next) taken 0 o.takes (takes-look (tally_of now) (tally_of next) place is))

-- ---- rounds

-- the first links of a round were looked at, and so many messages were taken
pub record Round (c now : Cell) (most place taken : ℕ) : Type 0 where
  pub kept : StaysLawful c now
  pub few : taken ≤ most
  pub takes : TakesMany (tally_of c) (tally_of now) taken
  pub none : taken ≡ 0 → tally_of now ≡ looked_first place (tally_of c)

pub round-first : (c : Cell) (most : ℕ) → IsLawful c → Round c c most 0 0
round-first c most lawful = record { kept = kept-refl c lawful; few = omega arith; takes = takes-none (tally_of c); none = λ e. refl }

pub round-more : (c now next : Cell) (most place taken more : ℕ) → Round c now most place taken → place < length (tally_of now) → taken + more ≤ most → StaysLawful now next
    → TakesMany (tally_of now) (tally_of next) more → (more ≡ 0 → tally_of next ≡ changed_at one_look (tally_of now) place) → Round c next most (place + 1) (taken + more)
round-more c now next most place taken more r within few kept takes none =
    let count = r.takes.count in
    record {
      kept = kept-trans c now next r.kept kept;
      few = few;
      takes = takes-trans (tally_of c) (tally_of now) (tally_of next) taken more r.takes takes;
      none = λ e.
          let before : tally_of now ≡ looked_first place (tally_of c) = r.none (omega (arith, e)) in
          none (omega (arith, e)) ∙ ap (λ (ts : List LinkTally). changed_at one_look ts place) before ∙ looked-more place (tally_of c) (omega (arith, within, count));
    }

-- all links were looked at
pub round-end : (c now : Cell) (most place taken : ℕ) → Round c now most place taken → length c.inward.items ≤ place → taken ≡ 0 → LooksRose (tally_of c) (tally_of now)
round-end c now most place taken r l e =
    let many = length-map c.inward.items link_tally in
    subst (LooksRose (tally_of c)) (sym (r.none e)) (looked-all place (tally_of c) (omega (arith, l, many)))

pub place-within : (c now : Cell) (most place taken : ℕ) → Round c now most place taken → place < length c.inward.items → (place < length now.inward.items) × (place < length (tally_of now))
place-within c now most place taken r l =
    let a = length-map c.inward.items link_tally in
    let b = length-map now.inward.items link_tally in
    let count = r.takes.count in
    (omega (arith, l, a, b, count), omega (arith, l, a, count))

-- ---- the same cell with other notes

pub noted-kept : (c : Cell) (moved held : List Bool) → IsLawful c → StaysLawful c (record c { moved = moved; held = held })
noted-kept c moved held l = record {
  lawful = record { tag = l.tag; outboxes = l.outboxes; in_order = l.in_order; late = l.late; history = l.history; fair = l.fair; partial = l.partial; posted = l.posted };
  tag = refl;
  history = prefix-refl _;
}

pub same-tally : (c now : Cell) → now.inward ≡ c.inward → tally_of now ≡ tally_of c
same-tally c now same = λ i. map link_tally (same i).items
