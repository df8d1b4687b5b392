-- What a log that was fetched gives.
use Rattle.std.proofs.Common.{ℕ, ◌≤◌, List, length, Option, None, Some, refl, sym, subst}
use Rattle.std.specs.Prelude.{Result, Ok, Err}
use Rattle.join_base.specs.declared.outside.FetchFault.{FetchFault}
use Rattle.join_base.specs.declared.outside.FetchFault.TheVariants as fetch
use Rattle.join_base.specs.Outside.{Told, FetchTells, IsFetched, content_of}
use Rattle.script_types.specs.declared.plan.Plan.{Plan}
use Rattle.script_files.specs.declared.stop.Stop.{Stop}
use Rattle.script_files.specs.Files.{File, Holds, log_of, max_log}
use Rattle.script_files.specs.Verdict.{TooLong, Verdict}
use Rattle.join_command.specs.Verdict.{OfLog}
use Rattle.script_files.specs.Loading.{Tells, fetch_stop, stopped_by}
use Rattle.join_command.specs.Loading.{LoadsLog, ReadsLog, ReadsLogBytes, log_answer}
use Rattle.script_files.proofs.LoadLemmas.{file_short, file_long, asks, asks_unfetched}

log_read : (plan : Plan) (bytes : List ℕ) (o : Option Verdict) → ReadsLogBytes plan bytes o → ReadsLog plan (Holds bytes) o
log_read plan bytes None reads = tt
log_read plan bytes (Some verdict) reads = reads

pub log_loaded : (before now : Option Told) (plan : Plan) (name bytes : List ℕ) (result : Result ℕ Stop)
    → FetchTells before now name max_log (Ok bytes) → length bytes ≤ max_log → ReadsLogBytes plan bytes (log_answer result)
    → Tells before now (λ b n. LoadsLog b n plan name result)
log_loaded None now plan name bytes result told short reads = tt
log_loaded (Some before) None plan name bytes result told short reads = absurd told
log_loaded (Some before) (Some now) plan name bytes result told short reads =
    let P : File → Type 0 = λ file. ReadsLog plan file (log_answer result) in
    record { asks = asks before now name result told.asked; answer = subst P (sym (file_short max_log (content_of before.files name) bytes told.fetched short)) (log_read plan bytes (log_answer result) reads) }

pub log_unfetched : (before now : Option Told) (plan : Plan) (name : List ℕ) (fault : FetchFault) → FetchTells before now name max_log (Err fault)
    → Tells before now (λ b n. LoadsLog b n plan name (Err (fetch_stop 2 fault)))
log_unfetched None now plan name fault told = tt
log_unfetched (Some before) None plan name fault told = absurd told
log_unfetched (Some before) (Some now) plan name fault told = record { asks = asks_unfetched ℕ before now name fault (fetch_stop 2 fault) told.asked; answer = stops fault told.fetched }
  where
    stops : (f : FetchFault) → IsFetched before.files name max_log (Err f) → ReadsLog plan (log_of before.files name) (stopped_by (fetch_stop 2 f))
    stops fetch.Failed long = tt
    stops fetch.TooLong long = let P : File → Type 0 = λ file. OfLog plan file (TooLong 2) in subst P (sym (file_long max_log (content_of before.files name) long)) refl
    stops fetch.NoMemory long = tt
