-- What the links of a cell carried, where one of them changed.
use Rattle.std.proofs.Common.{◌≡◌, ◌∙◌, ℕ, zero, suc, ◌<◌, List, [], ◌∷◌, ◌++◌, length, map, get_or, set, Bool, true, false, refl, ap, sym, subst, arith}
use Rattle.std.specs.Prelude.{◌==◌, if◌then◌else◌}
use Rattle.std.specs.List.{AllByRecursion}
use Rattle.std.proofs.lemmas.Bool.Decides.{nat_tests}
use Rattle.join_base.specs.Late.{HasCount, Late}
use Rattle.join_base.specs.declared.message.Stamped.{Stamped}
use Rattle.join_base.specs.declared.message.Source.{Source}
use Rattle.join_base.specs.declared.message.Source.TheVariants.{Feed, Actor}
use Rattle.fair_semantics.specs.Linked.{same_source, sources}
use Rattle.fair_semantics.proofs.CountedLemmas.{Among}
use Rattle.run_order_law.proofs.EventLemmas.{same_source_is}
use Rattle.run_order_law.proofs.SourceLemmas.{NoneOf, OneOf}
use Rattle.post_ring.specs.Links.{received, sent}
use Rattle.post_ring.specs.declared.link_in.LinkIn.{LinkIn}
use Rattle.post_ring.specs.declared.link_out.LinkOut.{LinkOut}
use Rattle.cell_links.specs.declared.ends.Inward.{Inward}
use Rattle.cell_links.specs.declared.ends.Outward.{Outward}
use Rattle.cell_links.specs.Ends.{inward_tag, outward_tag, sent_to}
use Rattle.actor_cells.specs.Lawful.{AreDifferent, AreDistinct, IsAmong, received_from}
use Rattle.actor_cells.proofs.StateLemmas.{one_none, one_of}

abbrev pub source_of : Inward → Source
source_of w = w.source

abbrev pub target_of : Outward → ℕ
target_of w = w.target

-- the sources of links, as their tags have them
pub sources-are : (ws : List Inward) → map (λ e. e.0) (map inward_tag ws) ≡ map source_of ws
sources-are [] = refl
sources-are (w ∷ ws) = λ i. w.source ∷ sources-are ws i

pub targets-are : (ws : List Outward) → map (λ e. e.0) (map outward_tag ws) ≡ map target_of ws
targets-are [] = refl
targets-are (w ∷ ws) = λ i. w.target ∷ targets-are ws i

pub among : (feeds actors : ℕ) (source : Source) → IsAmong feeds actors source → Among feeds actors source
among feeds actors (Feed k) a = a
among feeds actors (Actor b) a = a

pub has_count : (late : Late) (source : Source) → IsAmong (length late.feeds) (length late.actors) source → HasCount late source
has_count late (Feed k) a = a
has_count late (Actor b) a = a

pub each-at : {X Y : Type 0} (P : Y → Type 0) (f : X → Y) (xs : List X) (k : ℕ) (d : X) → k < length xs → AllByRecursion P (map f xs) → P (f (get_or xs k d))
each-at P f [] k d within each = absurd (omega arith)
each-at P f (x ∷ xs) zero d within each = each.0
each-at P f (x ∷ xs) (suc k) d within each = each-at P f xs k d (omega arith) each.1

-- ---- what came

-- nothing came from a source that has no link
pub none-from : (feeds actors : ℕ) (ws : List Inward) → AllByRecursion (IsAmong feeds actors) (map source_of ws) → (source : Source) → NoneOf source (sources feeds actors) → received_from ws source ≡ []
none-from feeds actors [] known source none = refl
none-from feeds actors (w ∷ ws) known source none = by (same_source w.source source) refl (none-from feeds actors ws known.1 source none)
  where
    by : (b : Bool) → same_source w.source source ≡ b → received_from ws source ≡ [] → (if b then received w.link else received_from ws source) ≡ []
    by false e later = later
    by true e later = absurd (one_none source (sources feeds actors) (subst (λ (s : Source). OneOf s (sources feeds actors)) (same_source_is w.source source e) (one_of feeds actors w.source (among feeds actors w.source known.0))) none)

-- a link that received what it had received
pub received-same : (ws : List Inward) (k : ℕ) (w : Inward) (l : LinkOut) (source : Source) → k < length ws → get_or ws k w ≡ w → received l ≡ received w.link → received_from (set ws k (record w { link = l })) source ≡ received_from ws source
received-same [] k w l source within here same = refl
received-same (v ∷ ws) zero w l source within here same = λ i. if same_source (sym here i).source source then (same ∙ ap (λ (o : Inward). received o.link) (sym here)) i else received_from ws source
received-same (v ∷ ws) (suc k) w l source within here same = ap (λ (ps : List Stamped). if same_source v.source source then received v.link else ps) (received-same ws k w l source (omega arith) here same)

module _ (w : Inward) (l : LinkOut) (post : Stamped) (more : received l ≡ received w.link ++ post ∷ []) where
  abbrev later : Inward
  later = record w { link = l }

  -- a link that received one message more
  pub received-more : (ws : List Inward) (k : ℕ) (source : Source) → k < length ws → get_or ws k w ≡ w → AreDifferent (map source_of ws)
      → received_from (set ws k (record w { link = l })) source ≡ (if same_source w.source source then received_from ws source ++ post ∷ [] else received_from ws source)
  received-more [] k source within here different = absurd (omega arith)
  received-more (v ∷ ws) zero source within here different = by (same_source w.source source) (same_source v.source source) (ap (λ (o : Inward). same_source o.source source) here)
    where
      by : (b c : Bool) → c ≡ b → (if b then received l else received_from ws source) ≡ (if b then (if c then received v.link else received_from ws source) ++ post ∷ [] else (if c then received v.link else received_from ws source))
      by true true e = more ∙ ap (λ (o : Inward). received o.link ++ post ∷ []) (sym here)
      by false false e = refl
      by true false e = absurd cc
      by false true e = absurd cc
  received-more (v ∷ ws) (suc k) source within here different = by (same_source v.source source) refl (received-more ws k source (omega arith) here different.1)
    where
      other : same_source v.source source ≡ true → same_source w.source source ≡ false
      other e =
          let apart : same_source w.source v.source ≡ false = subst (λ (o : Inward). same_source o.source v.source ≡ false) here (each-at (λ t. same_source t v.source ≡ false) source_of ws k w (omega arith) different.0) in
          subst (λ (s : Source). same_source w.source s ≡ false) (same_source_is v.source source e) apart

      by : (b : Bool) → same_source v.source source ≡ b → received_from (set ws k (record w { link = l })) source ≡ (if same_source w.source source then received_from ws source ++ post ∷ [] else received_from ws source)
          → (if b then received v.link else received_from (set ws k (record w { link = l })) source) ≡ (if same_source w.source source then (if b then received v.link else received_from ws source) ++ post ∷ [] else (if b then received v.link else received_from ws source))
      by false e rest = rest
      by true e rest = ap (λ (b : Bool). if b then received v.link ++ post ∷ [] else received v.link) (sym (other e))

-- ---- what went

pub is-itself : (k : ℕ) → (k == k) ≡ true
is-itself k = grind (arith, nat_tests)

pub not-equal : (j k : ℕ) → ¬ (j ≡ k) → (j == k) ≡ false
not-equal j k other = grind (arith, nat_tests)

pub same-number : (j k : ℕ) → (j == k) ≡ true → j ≡ k
same-number j k e = grind (arith, nat_tests, e)

-- over the link at a place
pub sent-at : (ws : List Outward) (k : ℕ) (w : Outward) → k < length ws → get_or ws k w ≡ w → AreDistinct (map target_of ws) → sent_to ws w.target ≡ sent w.link
sent-at [] k w within here distinct = absurd (omega arith)
sent-at (v ∷ ws) zero w within here distinct =
    ap (λ (o : Outward). if o.target == w.target then sent o.link else sent_to ws w.target) here ∙ ap (λ (b : Bool). if b then sent w.link else sent_to ws w.target) (is-itself w.target)
sent-at (v ∷ ws) (suc k) w within here distinct =
    let apart : (w.target == v.target) ≡ false = subst (λ (o : Outward). (o.target == v.target) ≡ false) here (each-at (λ u. (u == v.target) ≡ false) target_of ws k w (omega arith) distinct.0) in
    let e : (v.target == w.target) ≡ false = not-equal v.target w.target (λ same. let clash : true ≡ false = sym (is-itself w.target) ∙ ap (λ (n : ℕ). w.target == n) (sym same) ∙ apart in cc) in
    ap (λ (b : Bool). if b then sent v.link else sent_to ws w.target) e ∙ sent-at ws k w (omega arith) here distinct.1

set-there : (ws : List Outward) (k : ℕ) (w : Outward) → k < length ws → get_or (set ws k w) k w ≡ w
set-there [] k w within = absurd (omega arith)
set-there (v ∷ ws) zero w within = refl
set-there (v ∷ ws) (suc k) w within = set-there ws k w (omega arith)

set-count : (ws : List Outward) (k : ℕ) (w : Outward) → length (set ws k w) ≡ length ws
set-count [] k w = refl
set-count (v ∷ ws) zero w = refl
set-count (v ∷ ws) (suc k) w = ap suc (set-count ws k w)

pub targets-set : (ws : List Outward) (k : ℕ) (w : Outward) (l : LinkIn) → get_or ws k w ≡ w → map target_of (set ws k (record w { link = l })) ≡ map target_of ws
targets-set [] k w l here = refl
targets-set (v ∷ ws) zero w l here = λ i. (sym here i).target ∷ map target_of ws
targets-set (v ∷ ws) (suc k) w l here = ap (λ (ts : List ℕ). v.target ∷ ts) (targets-set ws k w l here)

pub sent-set : (ws : List Outward) (k : ℕ) (w : Outward) (l : LinkIn) → k < length ws → get_or ws k w ≡ w → AreDistinct (map target_of ws) → sent_to (set ws k (record w { link = l })) w.target ≡ sent l
sent-set ws k w l within here distinct =
    sent-at (set ws k (record w { link = l })) k (record w { link = l }) (subst (λ (n : ℕ). k < n) (sym (set-count ws k (record w { link = l }))) within) (set-there ws k (record w { link = l }) within) (subst AreDistinct (sym (targets-set ws k w l here)) distinct)

-- over the others
pub sent-other : (ws : List Outward) (k : ℕ) (w : Outward) (l : LinkIn) (other : ℕ) → get_or ws k w ≡ w → k < length ws → ¬ (other ≡ w.target) → sent_to (set ws k (record w { link = l })) other ≡ sent_to ws other
sent-other [] k w l other here within apart = refl
sent-other (v ∷ ws) zero w l other here within apart =
    let e = not-equal w.target other (λ same. apart (sym same)) in
    let f : (v.target == other) ≡ false = ap (λ (o : Outward). o.target == other) here ∙ e in
    ap (λ (b : Bool). if b then sent l else sent_to ws other) e ∙ sym (ap (λ (b : Bool). if b then sent v.link else sent_to ws other) f)
sent-other (v ∷ ws) (suc k) w l other here within apart = ap (λ (ps : List Stamped). if v.target == other then sent v.link else ps) (sent-other ws k w l other here (omega arith) apart)
