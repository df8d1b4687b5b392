-- The late count of one feed more, and no late counts of actors.
use Rattle.std.proofs.Common.{◌≡◌, ◌∙◌, ℕ, suc, ◌+◌, ◌-◌, ◌≤◌, List, [], ◌∷◌, ◌++◌, Bool, true, false, append_assoc, refl, sym, ap, arith}
use Rattle.std.specs.Prelude.{if◌then◌else◌, ◌==◌}
use Rattle.join_base.specs.Late.{late_list, late_one}
use Rattle.join_base.specs.declared.message.Source.{Source}
use Rattle.join_base.specs.declared.message.Source.TheVariants.{Feed, Actor}
use Rattle.join_base.specs.declared.message.Stamped.{Stamped}
use Rattle.fair_semantics.specs.declared.run.Entry.{Entry}
use Rattle.fair_semantics.specs.Linked.{count_of}
use Rattle.std.proofs.lemmas.List.{append-nil}
use Rattle.log_posts.specs.Lates.{actor_counts, count_where, feed_counts, lates_made}

late_first : (source : Source) (count : ℕ) (rest : List (Source × ℕ)) → (if count == 0 then rest else (source, count) ∷ rest) ≡ late_one source count ++ rest
late_first source count rest = by (count == 0)
  where
    by : (b : Bool) → (if b then rest else (source, count) ∷ rest) ≡ (if b then [] else (source, count) ∷ []) ++ rest
    by true = refl
    by false = refl

pub feed_next : (may : Bool) (read : List (Source × ℕ)) (feed feeds count got : ℕ) (old new whole : List (Source × ℕ)) → feed ≤ feeds → got ≡ count_of (Feed feed) read → count ≡ count_where may got → new ≡ old ++ late_one (Feed feed) count
    → old ++ late_list (λ k. Feed k) feed (feed_counts may read feed (feeds + 1 - feed)) ≡ whole → new ++ late_list (λ k. Feed k) (feed + 1) (feed_counts may read (feed + 1) (feeds + 1 - (feed + 1))) ≡ whole
feed_next may read feed feeds count got old new whole l by_got by_count more left =
    let rest : List (Source × ℕ) = late_list (λ k. Feed k) (feed + 1) (feed_counts may read (feed + 1) (feeds + 1 - (feed + 1))) in
    let count_is = by_count ∙ ap (count_where may) by_got in
    let one_more : suc (feeds + 1 - (feed + 1)) ≡ feeds + 1 - feed = omega arith in
    ap (λ (ls : List (Source × ℕ)). ls ++ rest) more
    ∙ append_assoc old (late_one (Feed feed) count) rest
    ∙ ap (λ (ls : List (Source × ℕ)). old ++ ls) (sym (late_first (Feed feed) count rest))
    ∙ ap (λ (n : ℕ). old ++ (if n == 0 then rest else (Feed feed, n) ∷ rest)) count_is
    ∙ ap (λ (n : ℕ). old ++ late_list (λ k. Feed k) feed (feed_counts may read feed n)) one_more
    ∙ left

-- no message may be late
pub none_late : (entries : List Entry) (from place : ℕ) (links : List (List Stamped)) → late_list (λ a. Actor a) place (actor_counts false entries from links) ≡ []
none_late entries from place [] = refl
none_late entries from place (posts ∷ links) = none_late entries (from + 1) (place + 1) links

-- ---- of feeds and actors

module _ (may : Bool) (read : List (Source × ℕ)) (feeds : ℕ) (entries : List Entry) (links : List (List Stamped)) (fed late : List (Source × ℕ)) (by_fed : fed ≡ late_list (λ k. Feed k) 1 (feed_counts may read 1 feeds)) where
  pub lates_some : may ≡ true → late ≡ fed ++ late_list (λ a. Actor a) 0 (actor_counts true entries 0 links) → late ≡ lates_made may read feeds entries links
  lates_some is by_late = by_late ∙ (λ i. by_fed i ++ late_list (λ a. Actor a) 0 (actor_counts (sym is i) entries 0 links))

  pub lates_none : may ≡ false → late ≡ fed → late ≡ lates_made may read feeds entries links
  lates_none is by_late =
      by_late
      ∙ sym (append-nil fed)
      ∙ (λ i. by_fed i ++ sym (none_late entries 0 0 links) i)
      ∙ (λ i. late_list (λ k. Feed k) 1 (feed_counts may read 1 feeds) ++ late_list (λ a. Actor a) 0 (actor_counts (sym is i) entries 0 links))
