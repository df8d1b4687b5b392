-- No line is wrong exactly where what was taken of each feed are its first rows, and the others are late.
use Rattle.std.proofs.Common.{◌≡◌, ◌∙◌, ℕ, zero, suc, ◌+◌, ◌-◌, ◌^◌, ◌<◌, min, List, [], ◌∷◌, length, map, take, drop, Bool, true, false, Option, None, Some, slice_get, refl, ap, sym, subst, arith}
use Rattle.std.specs.Prelude.{if◌then◌else◌, ◌==◌, nat_lt}
use Rattle.std.specs.List.{cons_option}
use Rattle.std.proofs.lemmas.Bool.{eqb-true}
use Rattle.std.proofs.lemmas.Bool.Decides.{nat_tests}
use Rattle.join_base.specs.declared.message.Message.{Message}
use Rattle.join_base.specs.declared.message.Source.TheVariants.{Feed}
use Rattle.fair_semantics.specs.declared.run.ActorRun.{ActorRun}
use Rattle.fair_semantics.specs.declared.run.Entry.{Entry}
use Rattle.fair_semantics.specs.Linked.{count_of, same_source, taken_from}
use Rattle.log_posts.specs.Same.{same_message}
use Rattle.log_posts.proofs.SameLemmas.{message_itself, same_message_is}
use Rattle.log_replay.specs.Kept.{entry_size, section_size}
use Rattle.log_audit.specs.declared.refusal.Difference.{Difference}
use Rattle.log_audit.specs.Search.{earlier, link_of, link_wrong, links_wrong, section_wrong, sections_wrong}
use Rattle.log_audit.specs.Wrong.{Feeds, Row, differs, or_later, refused, rows_for}
use Rattle.log_audit.proofs.RowLemmas.{messages}

-- ---- two differences

some_is_none : {X : Type 0} (x : X) → Some x ≡ None → ⊥
some_is_none x e = absurd cc

pub neither_later : (first later : Option Difference) → or_later first later ≡ None → (first ≡ None) × (later ≡ None)
neither_later None later e = (refl, e)
neither_later (Some d) later e = absurd (some_is_none d e)

neither_earlier : (first second : Option Difference) → earlier first second ≡ None → (first ≡ None) × (second ≡ None)
neither_earlier None second e = (refl, e)
neither_earlier (Some d) None e = absurd (some_is_none d e)
neither_earlier (Some d) (Some c) e = absurd (by (nat_lt c.line d.line) e)
  where
    by : (b : Bool) → (if b then Some c else Some d) ≡ None → ⊥
    by true p = some_is_none c p
    by false p = some_is_none d p

-- ---- one feed

-- what was taken begins the rows, and as many messages are late as there are others
pub record Fits (late : ℕ) (rows : List Row) (took : List Message) : Type 0 where
  pub taken : took ≡ take (length took) (messages rows)
  pub others : late ≡ min (length rows - length took) (2 ^ 64 - 1)

module _ (feed late lates : ℕ) where
  took_one : (e : Entry) (entries : List Entry) → same_source e.source (Feed feed) ≡ true → taken_from (Feed feed) (e ∷ entries) ≡ e.message ∷ taken_from (Feed feed) entries
  took_one e entries is = ap (λ (b : Bool). cons_option (if b then Some e.message else None) (taken_from (Feed feed) entries)) is

  took_none : (e : Entry) (entries : List Entry) → same_source e.source (Feed feed) ≡ false → taken_from (Feed feed) (e ∷ entries) ≡ taken_from (Feed feed) entries
  took_none e entries is = ap (λ (b : Bool). cons_option (if b then Some e.message else None) (taken_from (Feed feed) entries)) is

  abbrev Ends : ℕ → List Row → Bool → Option Difference
  Ends line rows b = if b then None else Some (differs (line + lates) feed (slice_get rows 0))

  end_fits : (line : ℕ) (rows : List Row) → Ends line rows (late == min (length rows) (2 ^ 64 - 1)) ≡ None → Fits late rows []
  end_fits line rows none = record { taken = refl; others = by (late == min (length rows) (2 ^ 64 - 1)) refl none }
    where
      by : (b : Bool) → (late == min (length rows) (2 ^ 64 - 1)) ≡ b → Ends line rows b ≡ None → late ≡ min (length rows - 0) (2 ^ 64 - 1)
      by true is e = let same = eqb-true late (min (length rows) (2 ^ 64 - 1)) is in omega (arith, same)
      by false is e = absurd (some_is_none (differs (line + lates) feed (slice_get rows 0)) e)

  fits_end : (line : ℕ) (rows : List Row) → Fits late rows [] → Ends line rows (late == min (length rows) (2 ^ 64 - 1)) ≡ None
  fits_end line rows fits = ap (Ends line rows) (equal late (min (length rows) (2 ^ 64 - 1)) (omega (arith, fits.others)))
    where
      equal : (a b : ℕ) → a ≡ b → (a == b) ≡ true
      equal a b e = grind (arith, nat_tests)

  -- the rows that are left behind an entry, and what is wrong there
  abbrev Next : Bool → List Row → List Row
  Next b rows = if b then drop 1 rows else rows

  abbrev Here : Bool → ℕ → List Row → Entry → Option Difference
  Here b line rows e = if b then refused line feed (slice_get rows 0) e.message else None

  abbrev Behind : ℕ → List Row → List Entry → Option Difference
  Behind line rows entries = link_wrong feed late lates line rows entries

  abbrev Whole : Bool → ℕ → List Row → Entry → List Entry → Option Difference
  Whole b line rows e entries = or_later (Here b line rows e) (Behind (line + entry_size e) (Next b rows) entries)

  first_fits : (line : ℕ) (row : Row) (e : Entry) → refused line feed (Some row) e.message ≡ None → row.message ≡ e.message
  first_fits line row e none = by (same_message row.message e.message) refl none
    where
      by : (b : Bool) → same_message row.message e.message ≡ b → (if b then None else Some (differs line feed (Some row))) ≡ None → row.message ≡ e.message
      by true is p = same_message_is row.message e.message is
      by false is p = absurd (some_is_none (differs line feed (Some row)) p)

  one_fits : (row : Row) (rows : List Row) (m : Message) (took : List Message) → row.message ≡ m → Fits late rows took → Fits late (row ∷ rows) (m ∷ took)
  one_fits row rows m took same fits = record {
    taken = λ i. sym same i ∷ fits.taken i;
    others = omega (arith, fits.others);
  }

  pub link_fits : (line : ℕ) (rows : List Row) (entries : List Entry) → link_wrong feed late lates line rows entries ≡ None → Fits late rows (taken_from (Feed feed) entries)
  link_fits line rows [] none = end_fits line rows none
  link_fits line rows (e ∷ entries) none = by rows (same_source e.source (Feed feed)) refl none (λ n rs h. link_fits n rs entries h)
    where
      by : (rs : List Row) (b : Bool) → same_source e.source (Feed feed) ≡ b → Whole b line rs e entries ≡ None → ((n : ℕ) (qs : List Row) → Behind n qs entries ≡ None → Fits late qs (taken_from (Feed feed) entries)) → Fits late rs (taken_from (Feed feed) (e ∷ entries))
      by rs false is p again =
          let both = neither_later None (Behind (line + entry_size e) rs entries) p in
          subst (Fits late rs) (sym (took_none e entries is)) (again (line + entry_size e) rs both.1)
      by [] true is p again = absurd (some_is_none (differs line feed None) p)
      by (row ∷ rs) true is p again =
          let both = neither_later (refused line feed (Some row) e.message) (Behind (line + entry_size e) rs entries) p in
          subst (Fits late (row ∷ rs)) (sym (took_one e entries is)) (one_fits row rs e.message (taken_from (Feed feed) entries) (first_fits line row e both.0) (again (line + entry_size e) rs both.1))

  -- ---- the other way round

  none_refused : (line : ℕ) (row : Row) (m : Message) → row.message ≡ m → refused line feed (Some row) m ≡ None
  none_refused line row m same =
      ap (λ (b : Bool). if b then None else Some (differs line feed (Some row))) (ap (λ (k : Message). same_message row.message k) (sym same) ∙ message_itself row.message)

  one_taken : (row : Row) (rows : List Row) (m : Message) (took : List Message) → Fits late (row ∷ rows) (m ∷ took) → (row.message ≡ m) × Fits late rows took
  one_taken row rows m took fits =
      let all : m ∷ took ≡ row.message ∷ take (length took) (messages rows) = fits.taken in
      let first : m ≡ row.message = cc in
      let later : took ≡ take (length took) (messages rows) = cc in
      (sym first, record { taken = later; others = omega (arith, fits.others) })

  none_left_over : (m : Message) (took : List Message) → Fits late [] (m ∷ took) → ⊥
  none_left_over m took fits = let all : m ∷ took ≡ [] = fits.taken in absurd cc

  pub fits_link : (line : ℕ) (rows : List Row) (entries : List Entry) → Fits late rows (taken_from (Feed feed) entries) → link_wrong feed late lates line rows entries ≡ None
  fits_link line rows [] fits = fits_end line rows fits
  fits_link line rows (e ∷ entries) fits = by rows (same_source e.source (Feed feed)) refl fits (λ n rs h. fits_link n rs entries h)
    where
      by : (rs : List Row) (b : Bool) → same_source e.source (Feed feed) ≡ b → Fits late rs (taken_from (Feed feed) (e ∷ entries)) → ((n : ℕ) (qs : List Row) → Fits late qs (taken_from (Feed feed) entries) → Behind n qs entries ≡ None) → Whole b line rs e entries ≡ None
      by rs false is h again = again (line + entry_size e) rs (subst (Fits late rs) (took_none e entries is) h)
      by [] true is h again = absurd (none_left_over e.message (taken_from (Feed feed) entries) (subst (Fits late []) (took_one e entries is) h))
      by (row ∷ rs) true is h again =
          let one = one_taken row rs e.message (taken_from (Feed feed) entries) (subst (Fits late (row ∷ rs)) (took_one e entries is) h) in
          ap (λ (o : Option Difference). or_later o (Behind (line + entry_size e) rs entries)) (none_refused line row e.message one.0) ∙ again (line + entry_size e) rs one.1

-- ---- all feeds of a section

module _ (actor line : ℕ) (own : ActorRun) where
  pub links_none : (first : Option Difference) (feed : ℕ) (feeds : Feeds) → links_wrong actor line own first feed feeds ≡ None
      → (first ≡ None) × ((k : ℕ) (posts : List (ℕ × Message)) → slice_get feeds k ≡ Some posts → link_of actor line own (feed + k) posts ≡ None)
  links_none first feed [] none = (none, λ k posts e. absurd cc)
  links_none first feed (p ∷ feeds) none =
      let rest = links_none (earlier first (link_of actor line own feed p)) (feed + 1) feeds none in
      let both = neither_earlier first (link_of actor line own feed p) rest.0 in
      (both.0, by both.1 rest.1)
    where
      by : link_of actor line own feed p ≡ None → ((k : ℕ) (posts : List (ℕ × Message)) → slice_get feeds k ≡ Some posts → link_of actor line own (feed + 1 + k) posts ≡ None)
          → (k : ℕ) (posts : List (ℕ × Message)) → slice_get (p ∷ feeds) k ≡ Some posts → link_of actor line own (feed + k) posts ≡ None
      by here later zero posts e =
          let same : p ≡ posts = cc in
          let at : feed ≡ feed + 0 = omega arith in
          subst (λ (n : ℕ). link_of actor line own n posts ≡ None) at (subst (λ (q : List (ℕ × Message)). link_of actor line own feed q ≡ None) same here)
      by here later (suc k) posts e =
          let at : feed + 1 + k ≡ feed + suc k = omega arith in
          subst (λ (n : ℕ). link_of actor line own n posts ≡ None) at (later k posts e)

  pub none_links : (feed : ℕ) (feeds : Feeds) → ((k : ℕ) (posts : List (ℕ × Message)) → slice_get feeds k ≡ Some posts → link_of actor line own (feed + k) posts ≡ None) → links_wrong actor line own None feed feeds ≡ None
  none_links feed [] h = refl
  none_links feed (p ∷ feeds) h =
      let at : feed + 0 ≡ feed = omega arith in
      let here : link_of actor line own feed p ≡ None = subst (λ (n : ℕ). link_of actor line own n p ≡ None) at (h 0 p refl) in
      ap (λ (o : Option Difference). links_wrong actor line own o (feed + 1) feeds) here
      ∙ none_links (feed + 1) feeds (λ k posts e. let next : feed + suc k ≡ feed + 1 + k = omega arith in subst (λ (n : ℕ). link_of actor line own n posts ≡ None) next (h (suc k) posts e))

-- ---- all sections

module _ (feeds : Feeds) where
  pub sections_none : (actor line : ℕ) (runs : List ActorRun) → sections_wrong feeds actor line runs ≡ None → (k : ℕ) (own : ActorRun) → slice_get runs k ≡ Some own → (n : ℕ) × (section_wrong feeds (actor + k) n own ≡ None)
  sections_none actor line [] none k own e = absurd cc
  sections_none actor line (x ∷ runs) none zero own e =
      let both = neither_later (section_wrong feeds actor line x) (sections_wrong feeds (actor + 1) (line + section_size x) runs) none in
      let same : x ≡ own = cc in
      let at : actor ≡ actor + 0 = omega arith in
      (line, subst (λ (a : ℕ). section_wrong feeds a line own ≡ None) at (subst (λ (y : ActorRun). section_wrong feeds actor line y ≡ None) same both.0))
  sections_none actor line (x ∷ runs) none (suc k) own e =
      let both = neither_later (section_wrong feeds actor line x) (sections_wrong feeds (actor + 1) (line + section_size x) runs) none in
      let later = sections_none (actor + 1) (line + section_size x) runs both.1 k own e in
      let at : actor + 1 + k ≡ actor + suc k = omega arith in
      (later.0, subst (λ (a : ℕ). section_wrong feeds a (later.0) own ≡ None) at later.1)

  pub none_sections : (actor line : ℕ) (runs : List ActorRun) → ((k : ℕ) (own : ActorRun) → slice_get runs k ≡ Some own → (n : ℕ) → section_wrong feeds (actor + k) n own ≡ None) → sections_wrong feeds actor line runs ≡ None
  none_sections actor line [] h = refl
  none_sections actor line (x ∷ runs) h =
      let at : actor + 0 ≡ actor = omega arith in
      let here : section_wrong feeds actor line x ≡ None = subst (λ (a : ℕ). section_wrong feeds a line x ≡ None) at (h 0 x refl line) in
      ap (λ (o : Option Difference). or_later o (sections_wrong feeds (actor + 1) (line + section_size x) runs)) here
      ∙ none_sections (actor + 1) (line + section_size x) runs (λ k own e n. let next : actor + suc k ≡ actor + 1 + k = omega arith in subst (λ (a : ℕ). section_wrong feeds a n own ≡ None) next (h (suc k) own e n))
