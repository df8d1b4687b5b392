-- What a file that was fetched gives.
use Rattle.std.proofs.Common.{◌≡◌, inl, ℕ, ◌+◌, ◌≤◌, Bool, true, false, cond, List, length, Option, None, Some, refl, sym, ap, ◌∙◌, subst, arith}
use Rattle.std.specs.Prelude.{Result, Ok, Err, nat_lt}
use Rattle.std.proofs.lemmas.Bool.Decides.{nat_tests}
use Rattle.join_base.specs.declared.message.Message.{Message}
use Rattle.join_base.specs.declared.outside.FetchFault.{FetchFault}
use Rattle.join_base.specs.declared.outside.FetchFault.TheVariants as fetch
use Rattle.join_base.specs.Outside.{Files, Told, FetchTells, IsAsked, IsFetched, IsTooLong, content_of, with_asked}
use Rattle.script_types.specs.declared.plan.Plan.{Plan}
use Rattle.sensor_feed.specs.Feed.{feed_of}
use Rattle.script_files.specs.declared.stop.Stop.{Stop}
use Rattle.script_files.specs.declared.stop.Stop.TheVariants as stop
use Rattle.script_files.specs.Files.{File, Long, Holds, file_within, file_of, max_file}
use Rattle.script_files.specs.Verdict.{TooLong, ScriptStops, feed_answer, posts_or}
use Rattle.script_files.specs.Loading.{Asks, LoadCause, LoadsFeed, LoadsOf, ReadsFeed, ReadsScript, StopsFeeds, StopsScript, Tells, fetch_stop, stopped_by}

-- ---- a file by the bytes of its name

pub file_short : (max : ℕ) (o : Option (List ℕ)) (bytes : List ℕ) → o ≡ Some bytes → length bytes ≤ max → file_within max o ≡ Holds bytes
file_short max o bytes held short = ap (file_within max) held ∙ by_size (nat_lt max (length bytes)) refl
  where
    by_size : (b : Bool) → nat_lt max (length bytes) ≡ b → cond b Long (Holds bytes) ≡ Holds bytes
    by_size true long = absurd (grind (arith, nat_tests))
    by_size false long = refl

pub file_long : (max : ℕ) (o : Option (List ℕ)) → IsTooLong o max → file_within max o ≡ Long
file_long max None long = absurd long
file_long max (Some bytes) long = by_size (nat_lt max (length bytes)) refl
  where
    by_size : (b : Bool) → nat_lt max (length bytes) ≡ b → cond b Long (Holds bytes) ≡ Long
    by_size true is = refl
    by_size false is = absurd (grind (arith, nat_tests))

pub asks : {X : Type 0} (before now : Told) (name : List ℕ) (result : Result X Stop) → now ≡ with_asked before name → Asks before now name result
asks before now name (Ok x) is = is
asks before now name (Err why) is = inl is

pub asks_unfetched : (X : Type 0) (before now : Told) (name : List ℕ) (fault : FetchFault) (why : Stop) → IsAsked before now name (Err fault) → Asks {X = X} before now name (Err why)
asks_unfetched X before now name fetch.Failed why is = inl is
asks_unfetched X before now name fetch.TooLong why is = inl is
asks_unfetched X before now name fetch.NoMemory why is = is

pub quiet_cause : {X : Type 0} (before now : ℕ) (result : Result X Stop) → now ≡ before → (result ≡ Err stop.ReadFault → ⊥) → LoadCause before now result
quiet_cause before now (Ok x) same read = same
quiet_cause before now (Err (stop.Refused why)) same read = same
quiet_cause before now (Err stop.ReadFault) same read = absurd (read refl)
quiet_cause before now (Err stop.NoMemory) same read = same

-- ---- a script, whatever it is to give

-- a script that was not fetched
unfetched : (files : Files) (name : List ℕ) (f : FetchFault) → IsFetched files name max_file (Err f) → StopsScript (file_of files name) (stopped_by (fetch_stop 1 f))
unfetched files name fetch.Failed long = tt
unfetched files name fetch.TooLong long = let P : File → Type 0 = λ file. ScriptStops file (TooLong 1) in subst P (sym (file_long max_file (content_of files name) long)) refl
unfetched files name fetch.NoMemory long = tt

module _ (X : Type 0) (Gives : File → X → Type 0) where
  pub script_loaded : (before now : Option Told) (name bytes : List ℕ) (result : Result X Stop)
      → FetchTells before now name max_file (Ok bytes) → length bytes ≤ max_file → ReadsScript Gives (Holds bytes) result
      → Tells before now (λ b n. LoadsOf Gives b n name result)
  script_loaded None now name bytes result told short reads = tt
  script_loaded (Some before) None name bytes result told short reads = absurd told
  script_loaded (Some before) (Some now) name bytes result told short reads =
      let P : File → Type 0 = λ file. ReadsScript Gives file result in
      record { asks = asks before now name result told.asked; answer = subst P (sym (file_short max_file (content_of before.files name) bytes told.fetched short)) reads }

  pub script_unfetched : (before now : Option Told) (name : List ℕ) (fault : FetchFault) → FetchTells before now name max_file (Err fault)
      → Tells before now (λ b n. LoadsOf Gives b n name (Err (fetch_stop 1 fault)))
  script_unfetched None now name fault told = tt
  script_unfetched (Some before) None name fault told = absurd told
  script_unfetched (Some before) (Some now) name fault told = record { asks = asks_unfetched X before now name fault (fetch_stop 1 fault) told.asked; answer = unfetched before.files name fault told.fetched }

-- ---- a feed

pub feed_loaded : (before now : Option Told) (plan : Plan) (number : ℕ) (name bytes : List ℕ) (result : Result (List (ℕ × Message)) Stop)
    → FetchTells before now name max_file (Ok bytes) → length bytes ≤ max_file → ReadsFeed (posts_or number (feed_of plan bytes)) result
    → Tells before now (λ b n. LoadsFeed b n plan number name result)
feed_loaded None now plan number name bytes result told short reads = tt
feed_loaded (Some before) None plan number name bytes result told short reads = absurd told
feed_loaded (Some before) (Some now) plan number name bytes result told short reads =
    let P : File → Type 0 = λ file. ReadsFeed (feed_answer plan number file) result in
    record { asks = asks before now name result told.asked; answer = subst P (sym (file_short max_file (content_of before.files name) bytes told.fetched short)) reads }

pub feed_unfetched : (before now : Option Told) (plan : Plan) (number : ℕ) (name : List ℕ) (fault : FetchFault) → FetchTells before now name max_file (Err fault)
    → Tells before now (λ b n. LoadsFeed b n plan number name (Err (fetch_stop (number + 1) fault)))
feed_unfetched None now plan number name fault told = tt
feed_unfetched (Some before) None plan number name fault told = absurd told
feed_unfetched (Some before) (Some now) plan number name fault told = record { asks = asks_unfetched (List (ℕ × Message)) before now name fault (fetch_stop (number + 1) fault) told.asked; answer = stops fault told.fetched }
  where
    stops : (f : FetchFault) → IsFetched before.files name max_file (Err f) → StopsFeeds (feed_answer plan number (file_of before.files name)) (stopped_by (fetch_stop (number + 1) f))
    stops fetch.Failed long = tt
    stops fetch.TooLong long = ap (feed_answer plan number) (file_long max_file (content_of before.files name) long)
    stops fetch.NoMemory long = tt
