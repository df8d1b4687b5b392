-- The entries of an expected run with the stamps of its version.
use Rattle.std.proofs.Common.{◌≡◌, ℕ, ◌+◌, ◌≤◌, ◌<◌, max, List, [], ◌∷◌, map, Bool, true, false, refl, arith}
use Rattle.std.specs.Prelude.{if◌then◌else◌, nat_lt, ◌==◌}
use Rattle.std.specs.List.{AllByRecursion}
use Rattle.std.proofs.lemmas.Bool.Decides.{nat_tests}
use Rattle.join_base.specs.Stamps.{greatest_stamp}
use Rattle.script_types.specs.declared.plan.Plan.{Plan}
use Rattle.fair_semantics.specs.declared.run.Entry.{Entry}
use Rattle.fair_semantics.specs.Fair.{Sent}
use Rattle.fair_semantics.specs.Fits.{EntryFits}
use Rattle.fair_semantics.specs.Linked.{unstamped_entry}
use Rattle.run_fit_law.specs.FitsLaw.{SentFits}
use Rattle.run_fit_law.proofs.SoundLemmas.{EntrySound}
use Rattle.log_posts.specs.Stamps.{next_stamp}
use Rattle.log_replay.specs.Expected.{bare, restamped, stamped_in}

module _ (plan : Plan) (version feeds : ℕ) where
  abbrev Sound : Entry → Type 0
  Sound = EntrySound plan version feeds

  pub bare_fit : (entries : List Entry) → AllByRecursion (EntryFits plan version feeds) entries → AllByRecursion (SentFits plan feeds) (map bare entries)
  bare_fit [] each = tt
  bare_fit (e ∷ entries) each = (record { source = each.0.source; values = each.0.message.values }, bare_fit entries each.1)

  next_fits : (latest carried : ℕ) → (1 ≤ next_stamp latest carried) × (next_stamp latest carried ≤ greatest_stamp)
  next_fits latest carried = by (nat_lt (max latest carried) greatest_stamp) refl
    where
      less : (m k : ℕ) → nat_lt m k ≡ true → m < k
      less m k e = grind (arith, nat_tests)

      by : (b : Bool) → nat_lt (max latest carried) greatest_stamp ≡ b → let stamp : ℕ = if b then max latest carried + 1 else 1 in (1 ≤ stamp) × (stamp ≤ greatest_stamp)
      by true e = let h = less (max latest carried) greatest_stamp e in (omega arith, omega arith)
      by false e = (omega arith, omega arith)

  restamped_fit : (version ≡ 1 → ⊥) → (latest : ℕ) (sent : List Sent) (entries : List Entry) → AllByRecursion Sound entries → AllByRecursion (EntryFits plan version feeds) (restamped latest sent entries)
  restamped_fit second latest sent [] each = tt
  restamped_fit second latest [] (e ∷ entries) each = tt
  restamped_fit second latest (s ∷ sent) (e ∷ entries) each = (
    record { number = each.0.number; source = each.0.source; message = each.0.message; stamp = record { first = λ p. absurd (second p); second = λ p. next_fits latest s.1.stamp }; firing = each.0.firing },
    restamped_fit second (next_stamp latest s.1.stamp) sent entries each.1,
  )

  unstamped_fit : version ≡ 1 → (entries : List Entry) → AllByRecursion Sound entries → AllByRecursion (EntryFits plan version feeds) (map unstamped_entry entries)
  unstamped_fit first [] each = tt
  unstamped_fit first (e ∷ entries) each =
      (record { number = each.0.number; source = each.0.source; message = each.0.message; stamp = record { first = λ p. refl; second = λ p. absurd (omega (arith, first, p)) }; firing = each.0.firing }, unstamped_fit first entries each.1)

  -- the stamps of an expected run are those of its version
  pub stamped_fit : (sent : List Sent) (entries : List Entry) → AllByRecursion Sound entries → AllByRecursion (EntryFits plan version feeds) (stamped_in version sent entries)
  stamped_fit sent entries each = by (version == 1) refl
    where
      is_one : (n : ℕ) → (n == 1) ≡ true → n ≡ 1
      is_one n e = grind (arith, nat_tests)

      not_one : (n : ℕ) → (n == 1) ≡ false → n ≡ 1 → ⊥
      not_one n e p = absurd (grind (arith, nat_tests))

      by : (b : Bool) → (version == 1) ≡ b → AllByRecursion (EntryFits plan version feeds) (if b then map unstamped_entry entries else restamped 0 sent entries)
      by true e = unstamped_fit (is_one version e) entries each
      by false e = restamped_fit (not_one version e) 0 sent entries each
