-- The numbers of a command are in their ranges.
use Rattle.std.proofs.Common.{◌≡◌, ℕ, ◌≤◌, Bool, true, false, cond, List, [], ◌∷◌, length, Option, None, Some, refl, sym, ap, ◌∙◌, subst, arith}
use Rattle.std.specs.Prelude.{◌&&◌, nat_le, IfOk, IfSome, Result, Ok, Err}
use Rattle.std.specs.Option.{option_map, option_and_then}
use Rattle.std.proofs.lemmas.Bool.Decides.{nat_tests}
use Rattle.join_base.specs.Integer.{are_digits, value_of}
use Rattle.join_base.specs.declared.items.NoMemory.{NoMemory}
use Rattle.command_words.specs.declared.command.Request.{Request}
use Rattle.command_words.specs.declared.options.Queueing.{Queueing}
use Rattle.command_words.specs.declared.options.RunOptions.{RunOptions}
use Rattle.command_words.specs.declared.table.Setting.{Setting}
use Rattle.command_words.specs.declared.table.Setting.TheVariants.{Workers, Ring, Arrivals, Partials, Monitors}
use Rattle.command_words.specs.declared.table.Verb.{Verb}
use Rattle.command_words.specs.declared.table.Verb.TheVariants as verb
use Rattle.command_words.specs.Item.{Item, items_of}
use Rattle.command_words.specs.Number.{is_within, number_in}
use Rattle.command_words.specs.Once.{once}
use Rattle.command_words.specs.Command.{Command, RunWords, Run, Check, Replay, Load, Watch, Lint, Ask, command_by, command_from, command_of, number_given, number_or, only_word, options_given, positional_words, queueing_given, run_from, script_and_feeds, two_words, values_given}
use Rattle.command_words.specs.Table.{verb_named}
use Rattle.command_words.specs.Ranges.{AreInRange, IsFrom, IsInRange, RunIsInRange}
use Rattle.command_words.specs.Views.{command_in}

-- ---- what a value that is there tells of its parts

pub record IsMapped {X Y : Type 0} (f : X → Y) (given : Option X) (y : Y) : Type 0 where
  pub first : X
  pub value : given ≡ Some first
  pub result : f first ≡ y

pub mapped : {X Y : Type 0} (f : X → Y) (given : Option X) (y : Y) → option_map f given ≡ Some y → IsMapped f given y
mapped f (Some x) y is = record { first = x; value = refl; result = cc }
mapped f None y is = absurd cc

pub record IsThen {X Y : Type 0} (f : X → Option Y) (given : Option X) (y : Y) : Type 0 where
  pub first : X
  pub value : given ≡ Some first
  pub result : f first ≡ Some y

pub then_given : {X Y : Type 0} (f : X → Option Y) (given : Option X) (y : Y) → option_and_then f given ≡ Some y → IsThen f given y
then_given f (Some x) y is = record { first = x; value = refl; result = is }
then_given f None y is = absurd cc

-- ---- numbers

within : (least most n : ℕ) → is_within least most n ≡ true → IsFrom least most n
within least most n is = by_tests (nat_le least n) (nat_le n most) refl refl is
  where
    by_tests : (a b : Bool) → nat_le least n ≡ a → nat_le n most ≡ b → (a && b) ≡ true → IsFrom least most n
    by_tests true true low high both = (grind (arith, nat_tests), grind (arith, nat_tests))
    by_tests true false low high both = absurd cc
    by_tests false b low high both = absurd cc

number_from : (least most : ℕ) (word : List ℕ) (n : ℕ) → number_in least most word ≡ Some n → IsFrom least most n
number_from least most word n is = by_tests (are_digits word) (is_within least most (value_of word)) refl is
  where
    by_tests : (a b : Bool) → is_within least most (value_of word) ≡ b → cond (a && b) (Some (value_of word)) None ≡ Some n → IsFrom least most n
    by_tests true true inside e = let same : value_of word ≡ n = cc in subst (IsFrom least most) same (within least most (value_of word) inside)
    by_tests true false inside e = absurd cc
    by_tests false b inside e = absurd cc

option_from : (wanted : Setting) (least most usual : ℕ) (items : List Item) (n : ℕ) → IsFrom least most usual → number_given wanted least most usual items ≡ Some n → IsFrom least most n
option_from wanted least most usual items n inside is =
    let t = then_given (number_or least most usual) (once (values_given wanted items)) n is in by_value t.first t.result
  where
    by_value : (o : Option (List ℕ)) → number_or least most usual o ≡ Some n → IsFrom least most n
    by_value None e = let same : usual ≡ n = cc in subst (IsFrom least most) same inside
    by_value (Some value) e = number_from least most value n e

options_from : (items : List Item) (options : RunOptions) → options_given items ≡ Some options → AreInRange options
options_from items options is =
    let w = then_given (λ (workers : ℕ). option_and_then (λ (ring : ℕ). option_and_then (λ (arrivals : ℕ). option_and_then (λ (partials : ℕ). option_map (λ (pool : Queueing). record { workers = workers; ring = ring; arrivals = arrivals; partials = partials; pool = pool }) (queueing_given items)) (number_given Partials 1 1000000 65536 items)) (number_given Arrivals 1 1000000 50000 items)) (number_given Ring 1 4096 64 items)) (number_given Workers 1 64 4 items) options is in
    let r = then_given (λ (ring : ℕ). option_and_then (λ (arrivals : ℕ). option_and_then (λ (partials : ℕ). option_map (λ (pool : Queueing). record { workers = w.first; ring = ring; arrivals = arrivals; partials = partials; pool = pool }) (queueing_given items)) (number_given Partials 1 1000000 65536 items)) (number_given Arrivals 1 1000000 50000 items)) (number_given Ring 1 4096 64 items) options w.result in
    let a = then_given (λ (arrivals : ℕ). option_and_then (λ (partials : ℕ). option_map (λ (pool : Queueing). record { workers = w.first; ring = r.first; arrivals = arrivals; partials = partials; pool = pool }) (queueing_given items)) (number_given Partials 1 1000000 65536 items)) (number_given Arrivals 1 1000000 50000 items) options r.result in
    let p = then_given (λ (partials : ℕ). option_map (λ (pool : Queueing). record { workers = w.first; ring = r.first; arrivals = a.first; partials = partials; pool = pool }) (queueing_given items)) (number_given Partials 1 1000000 65536 items) options a.result in
    let q = mapped (λ (pool : Queueing). record { workers = w.first; ring = r.first; arrivals = a.first; partials = p.first; pool = pool }) (queueing_given items) options p.result in
    subst AreInRange q.result (record {
      workers = option_from Workers 1 64 4 items w.first (omega arith, omega arith) w.value;
      ring = option_from Ring 1 4096 64 items r.first (omega arith, omega arith) r.value;
      arrivals = option_from Arrivals 1 1000000 50000 items a.first (omega arith, omega arith) a.value;
      partials = option_from Partials 1 1000000 65536 items p.first (omega arith, omega arith) p.value;
    })

-- ---- commands

feeds_from : (words : List (List ℕ)) (files : List ℕ × List (List ℕ)) → script_and_feeds words ≡ Some files → IsFrom 1 16 (length files.1)
feeds_from [] files is = absurd cc
feeds_from (script ∷ feeds) files is = by_count (is_within 1 16 (length feeds)) refl is
  where
    by_count : (b : Bool) → is_within 1 16 (length feeds) ≡ b → cond b (Some (script, feeds)) None ≡ Some files → IsFrom 1 16 (length files.1)
    by_count true inside e = let same : (script, feeds) ≡ files = cc in subst (λ (f : List ℕ × List (List ℕ)). IsFrom 1 16 (length f.1)) same (within 1 16 (length feeds) inside)
    by_count false inside e = absurd cc

run_in_range : (words : List (List ℕ)) (items : List Item) (run : RunWords) → run_from words items ≡ Some run → RunIsInRange run
run_in_range words items run is =
    let t = then_given (λ (files : List ℕ × List (List ℕ)). option_map (λ (options : RunOptions). record { script = files.0; feeds = files.1; options = options }) (options_given items)) (script_and_feeds words) run is in
    let m = mapped (λ (options : RunOptions). record { script = (t.first).0; feeds = (t.first).1; options = options }) (options_given items) run t.result in
    subst RunIsInRange m.result (record { feeds = feeds_from words t.first t.value; options = options_from items m.first m.value })

command_in_range : (v : Verb) (words : List (List ℕ)) (items : List Item) (command : Command) → command_from v words items ≡ Some command → IsInRange command
command_in_range verb.Run words items command is =
    let m = mapped (λ (run : RunWords). Run run) (run_from words items) command is in subst IsInRange m.result (run_in_range words items m.first m.value)
command_in_range verb.Check words items command is = let m = mapped (λ (script : List ℕ). Check script) (only_word words) command is in subst IsInRange m.result tt
command_in_range verb.Replay words items command is = let m = mapped (λ (files : List ℕ × List ℕ). Replay files.0 files.1) (two_words words) command is in subst IsInRange m.result tt
command_in_range verb.Load words items command is =
    let m = mapped (λ (rows : ℕ). Load rows) (option_and_then (number_in 1 20000) (only_word words)) command is in
    let t = then_given (number_in 1 20000) (only_word words) m.first m.value in
    subst IsInRange m.result (number_from 1 20000 t.first m.first t.result)
command_in_range verb.Watch words items command is =
    let t = then_given (λ (run : RunWords). option_map (Watch run) (number_given Monitors 1 8 1 items)) (run_from words items) command is in
    let m = mapped (Watch t.first) (number_given Monitors 1 8 1 items) command t.result in
    subst IsInRange m.result (run_in_range words items t.first t.value, option_from Monitors 1 8 1 items m.first (omega arith, omega arith) m.value)
command_in_range verb.Lint words items command is = let m = mapped (λ (script : List ℕ). Lint script) (only_word words) command is in subst IsInRange m.result tt
command_in_range verb.Ask words items command is =
    let m = mapped (λ (run : RunWords). Ask run) (run_from words items) command is in subst IsInRange m.result (run_in_range words items m.first m.value)

words_in_range : (verbs : List Verb) (settings : List Setting) (words : List (List ℕ)) (command : Command) → command_of verbs settings words ≡ Some command → IsInRange command
words_in_range verbs settings [] command is = absurd cc
words_in_range verbs settings (name ∷ words) command is =
    let t = then_given (λ (v : Verb). option_and_then (command_by v) (items_of settings v words)) (verb_named verbs name) command is in
    let u = then_given (command_by t.first) (items_of settings t.first words) command t.result in
    command_in_range t.first (positional_words u.first) u.first command u.result

pub requests_in_range : (verbs : List Verb) (settings : List Setting) (words : List (List ℕ)) (result : Result (Option Request) NoMemory)
    → IfOk result (λ request. option_map command_in request ≡ command_of verbs settings words) → IfOk result (λ request. IfSome request (λ r. IsInRange (command_in r)))
requests_in_range verbs settings words (Ok None) is = tt
requests_in_range verbs settings words (Ok (Some request)) is = words_in_range verbs settings words (command_in request) (sym is)
requests_in_range verbs settings words (Err fault) is = tt
