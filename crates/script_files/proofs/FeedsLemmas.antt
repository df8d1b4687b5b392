-- Feeds that are loaded in turn.
use Rattle.std.proofs.Common.{◌≡◌, ◌⊎◌, inl, inr, ℕ, ◌+◌, ◌<◌, List, [], ◌∷◌, ◌++◌, append_assoc, length, drop, get_or, Option, None, Some, refl, sym, ap, ◌∙◌, subst, Bor}
use Rattle.std.specs.Prelude.{Result, Ok, Err}
use Rattle.std.proofs.lemmas.List.{append-nil, drop_more}
use Rattle.join_base.specs.declared.message.Message.{Message}
use Rattle.join_base.specs.Outside.{Told, with_asked}
use Rattle.script_types.specs.declared.plan.Plan.{Plan}
use Rattle.sensor_feed.specs.Feed.{feed_of}
use Rattle.sensor_feed.specs.declared.fault.FeedFault.{FeedFault}
use Rattle.sensor_feed.specs.declared.fault.FeedFault.TheVariants as fault
use Rattle.command_words.specs.Views.{words_in}
use Rattle.script_files.specs.declared.stop.Stop.{Stop}
use Rattle.script_files.specs.declared.stop.Stop.TheVariants as stop
use Rattle.script_files.specs.Files.{File, Absent, Long, Holds, file_of}
use Rattle.script_files.specs.Verdict.{Feeds, FeedsAnswer, Given, Missing, Refused, Verdict, and_then, behind, feed_answer, feeds_answer, fetched, in_front, posts_or}
use Rattle.script_files.specs.Loading.{LoadsFeed, LoadsFeeds, StopsFeeds, Tells, stopped_by}

-- the names asked so far, and the posts of the feeds in front of those that are left, of which the first has this
-- number
pub record FeedsSoFar (plan : Plan) (names : List (List ℕ)) (before now : Told) (number : ℕ) (feeds : Feeds) (left : List (List ℕ)) : Type 0 where
  pub asked : List (List ℕ)
  pub told_is : now ≡ record { files = before.files; asked = before.asked ++ asked }
  pub in_order : asked ++ fetched before.files plan left ≡ fetched before.files plan names
  pub read : in_front feeds (feeds_answer before.files plan number left) ≡ feeds_answer before.files plan 1 names

asked_none : (before : Told) → before ≡ record { files = before.files; asked = before.asked ++ [] }
asked_none before = λ i. record { files = before.files; asked = sym (append-nil before.asked) i }

none_in_front : (more : FeedsAnswer) → in_front [] more ≡ more
none_in_front (Given feeds) = refl
none_in_front (Refused verdict) = refl
none_in_front Missing = refl

one_more : (feeds : Feeds) (posts : List (ℕ × Message)) (more : FeedsAnswer) → in_front (feeds ++ posts ∷ []) more ≡ in_front feeds (in_front (posts ∷ []) more)
one_more feeds posts (Given others) = ap (λ (all : Feeds). Given all) (append_assoc feeds (posts ∷ []) others)
one_more feeds posts (Refused verdict) = refl
one_more feeds posts Missing = refl

-- whether a feed gives posts is the same at every number
behind_read : (feed other : ℕ) (read : Result (List (ℕ × Message)) FeedFault) (names : List (List ℕ)) → behind (posts_or feed read) names ≡ behind (posts_or other read) names
behind_read feed other (Ok posts) names = refl
behind_read feed other (Err (fault.Bad row cause)) names = refl
behind_read feed other (Err fault.NoMemory) names = refl

behind_any : (plan : Plan) (feed other : ℕ) (file : File) (names : List (List ℕ)) → behind (feed_answer plan feed file) names ≡ behind (feed_answer plan other file) names
behind_any plan feed other Absent names = refl
behind_any plan feed other Long names = refl
behind_any plan feed other (Holds bytes) names = behind_read feed other (feed_of plan bytes) names

module _ (plan : Plan) (names : List (List ℕ)) where
  abbrev SoFar : ℕ → Feeds → List (List ℕ) → Told → Told → Type 0
  SoFar number feeds left before now = FeedsSoFar plan names before now number feeds left

  pub none_so_far : (told : Option Told) → Tells told told (SoFar 1 [] names)
  none_so_far None = tt
  none_so_far (Some before) = record { asked = []; told_is = asked_none before; in_order = refl; read = none_in_front (feeds_answer before.files plan 1 names) }

  -- ---- one feed more

  module _ (number : ℕ) (feeds : Feeds) (name : List ℕ) (left : List (List ℕ)) where
    more : (before now : Told) (asked : List (List ℕ)) → asked ++ fetched before.files plan (name ∷ left) ≡ fetched before.files plan names
        → in_front feeds (feeds_answer before.files plan number (name ∷ left)) ≡ feeds_answer before.files plan 1 names
        → (posts : List (ℕ × Message)) → LoadsFeed (record { files = before.files; asked = before.asked ++ asked }) now plan number name (Ok posts) → SoFar (number + 1) (feeds ++ posts ∷ []) left before now
    more before now asked in_order read posts loaded =
        let gives : feed_answer plan number (file_of before.files name) ≡ Given (posts ∷ []) = loaded.answer in
        let go_on : behind (feed_answer plan 1 (file_of before.files name)) (fetched before.files plan left) ≡ fetched before.files plan left =
        behind_any plan 1 number (file_of before.files name) (fetched before.files plan left) ∙ ap (λ (a : FeedsAnswer). behind a (fetched before.files plan left)) gives in
        let others : FeedsAnswer = feeds_answer before.files plan (number + 1) left in
        record {
          asked = asked ++ name ∷ [];
          told_is = loaded.asks ∙ (λ i. record { files = before.files; asked = append_assoc before.asked asked (name ∷ []) i });
          in_order = append_assoc asked (name ∷ []) (fetched before.files plan left) ∙ ap (λ (ns : List (List ℕ)). asked ++ name ∷ ns) (sym go_on) ∙ in_order;
          read = one_more feeds posts others ∙ ap (λ (a : FeedsAnswer). in_front feeds (and_then a others)) (sym gives) ∙ read;
        }

    more_feed : (before mid now : Told) (posts : List (ℕ × Message)) → SoFar number feeds (name ∷ left) before mid → LoadsFeed mid now plan number name (Ok posts) → SoFar (number + 1) (feeds ++ posts ∷ []) left before now
    more_feed before mid now posts so_far loaded =
        let P : Told → Type 0 = λ m. LoadsFeed m now plan number name (Ok posts) in
        more before now so_far.asked so_far.in_order so_far.read posts (subst P so_far.told_is loaded)

    -- ---- a feed that stops

    stops : (before now : Told) (asked : List (List ℕ)) → asked ++ fetched before.files plan (name ∷ left) ≡ fetched before.files plan names
        → in_front feeds (feeds_answer before.files plan number (name ∷ left)) ≡ feeds_answer before.files plan 1 names
        → (why : Stop) → LoadsFeed (record { files = before.files; asked = before.asked ++ asked }) now plan number name (Err why) → LoadsFeeds before now plan names (Err why)
    stops before now asked in_order read why loaded = by_asks loaded.asks
      where
        answer : (o : Option Verdict) → StopsFeeds (feed_answer plan number (file_of before.files name)) o → StopsFeeds (feeds_answer before.files plan 1 names) o
        answer None is = tt
        answer (Some verdict) is = sym read ∙ ap (λ (a : FeedsAnswer). in_front feeds (and_then a (feeds_answer before.files plan (number + 1) left))) is

        by_asks : (now ≡ with_asked (record { files = before.files; asked = before.asked ++ asked }) name) ⊎ (now ≡ record { files = before.files; asked = before.asked ++ asked }) → LoadsFeeds before now plan names (Err why)
        by_asks (inl is) = record {
          asked = asked ++ name ∷ [];
          told_is = is ∙ (λ i. record { files = before.files; asked = append_assoc before.asked asked (name ∷ []) i });
          in_order = (behind (feed_answer plan 1 (file_of before.files name)) (fetched before.files plan left), append_assoc asked (name ∷ []) (behind (feed_answer plan 1 (file_of before.files name)) (fetched before.files plan left)) ∙ in_order);
          answer = answer (stopped_by why) loaded.answer;
        }
        by_asks (inr is) = record { asked = asked; told_is = is; in_order = (fetched before.files plan (name ∷ left), in_order); answer = answer (stopped_by why) loaded.answer }

    stops_feed : (before mid now : Told) (why : Stop) → SoFar number feeds (name ∷ left) before mid → LoadsFeed mid now plan number name (Err why) → LoadsFeeds before now plan names (Err why)
    stops_feed before mid now why so_far loaded =
        let P : Told → Type 0 = λ m. LoadsFeed m now plan number name (Err why) in
        stops before now so_far.asked so_far.in_order so_far.read why (subst P so_far.told_is loaded)

  -- ---- at the words of a loop

  module _ (items : List (Bor (List ℕ))) (index : ℕ) (item : Bor (List ℕ)) (within : index < length items) (is : item ≡ get_or items index item) where
    here : words_in (drop index items) ≡ item.now ∷ words_in (drop (index + 1) items)
    here = ap words_in (drop_more items index item within) ∙ ap (λ (w : Bor (List ℕ)). w.now ∷ words_in (drop (index + 1) items)) (sym is)

    pub feed_more : (before mid now : Option Told) (number : ℕ) (feeds : Feeds) (posts : List (ℕ × Message)) → Tells before mid (SoFar number feeds (words_in (drop index items)))
        → Tells mid now (λ b n. LoadsFeed b n plan number item.now (Ok posts)) → Tells before now (SoFar (number + 1) (feeds ++ posts ∷ []) (words_in (drop (index + 1) items)))
    feed_more None mid now number feeds posts so_far loaded = tt
    feed_more (Some before) None now number feeds posts so_far loaded = absurd so_far
    feed_more (Some before) (Some mid) None number feeds posts so_far loaded = absurd loaded
    feed_more (Some before) (Some mid) (Some now) number feeds posts so_far loaded =
        let P : List (List ℕ) → Type 0 = λ ws. SoFar number feeds ws before mid in
        more_feed number feeds item.now (words_in (drop (index + 1) items)) before mid now posts (subst P here so_far) loaded

    pub feed_stopped : (before mid now : Option Told) (number : ℕ) (feeds : Feeds) (why : Stop) → Tells before mid (SoFar number feeds (words_in (drop index items)))
        → Tells mid now (λ b n. LoadsFeed b n plan number item.now (Err why)) → Tells before now (λ b n. LoadsFeeds b n plan names (Err why))
    feed_stopped None mid now number feeds why so_far loaded = tt
    feed_stopped (Some before) None now number feeds why so_far loaded = absurd so_far
    feed_stopped (Some before) (Some mid) None number feeds why so_far loaded = absurd loaded
    feed_stopped (Some before) (Some mid) (Some now) number feeds why so_far loaded =
        let P : List (List ℕ) → Type 0 = λ ws. SoFar number feeds ws before mid in
        stops_feed number feeds item.now (words_in (drop (index + 1) items)) before mid now why (subst P here so_far) loaded

  -- no memory behind some feeds
  pub feeds_cut : (before now : Option Told) (number : ℕ) (feeds : Feeds) (left : List (List ℕ)) → Tells before now (SoFar number feeds left) → Tells before now (λ b n. LoadsFeeds b n plan names (Err stop.NoMemory))
  feeds_cut None now number feeds left so_far = tt
  feeds_cut (Some before) None number feeds left so_far = absurd so_far
  feeds_cut (Some before) (Some now) number feeds left so_far =
      record { asked = so_far.asked; told_is = so_far.told_is; in_order = (fetched before.files plan left, so_far.in_order); answer = tt }

  -- none is left
  pub feeds_read : (before now : Option Told) (number : ℕ) (feeds : Feeds) → Tells before now (SoFar number feeds []) → Tells before now (λ b n. LoadsFeeds b n plan names (Ok feeds))
  feeds_read None now number feeds so_far = tt
  feeds_read (Some before) None number feeds so_far = absurd so_far
  feeds_read (Some before) (Some now) number feeds so_far = record {
    asked = so_far.asked;
    told_is = so_far.told_is;
    in_order = ([], so_far.in_order);
    answer = sym so_far.read ∙ ap (λ (all : Feeds). Given all) (append-nil feeds);
  }
