-- When an answerer fits: as it reads, as arrivals go on, and beside another actor.
use mathlib.Core.Logic.{dite}
use native.Mathlib.Decide.{ℕ_discrete}
use Rattle.std.proofs.Common.{◌≡◌, ◌≢◌, ◌∙◌, ◌⊎◌, inl, inr, ◌+◌, ◌≤◌, ℕ, zero, suc, List, [], ◌++◌, Option, Some, IsSome, length, replicate, take, slice_get, slice_set, refl, sym, ap, subst, arith}
use Rattle.std.proofs.lemmas.List.{length-replicate, length-set, length-take-le, take-append-le, take_all}
use Rattle.join_base.specs.declared.message.Value.{Value}
use Rattle.pattern_core.specs.Members.{IsIn}
use Rattle.pattern_core.proofs.MembersLemmas.{IsIn-append_left}
use Rattle.fair_semantics.specs.declared.run.Effect.{Effect}
use Rattle.fair_semantics.specs.declared.run.Effect.TheVariants.{Reply}
use Rattle.fair_semantics.specs.declared.run.Entry.{Entry}
use Rattle.feed_answers.specs.Answers.{effects_in}
use Rattle.ask_board.specs.declared.view.Ask.{Ask}
use Rattle.ask_board.specs.declared.board.AskBoard.{AskBoard}
use Rattle.ask_board.specs.Board.{HasAsk, KnowsAnother}
use Rattle.ask_board.proofs.ListLemmas.{get_other, get_same}
use Rattle.answerer.specs.declared.answering.Answers.{Answers}
use Rattle.answerer.specs.declared.noting.Progress.{Progress}
use Rattle.answerer.specs.declared.reading.Answerer.{Answerer}
use Rattle.answerer.specs.Asks.{AreNoted, ask_at, asks_behind, asks_of}
use Rattle.answerer.specs.Answered.{Answered, AreKnown, AreTriedBack, IsAnswer, IsOfBoard, IsTried, known}
use Rattle.answerer.specs.Fit.{Fits, FitsGrow, FitsIn, FitsNothing, IsAlike, IsReply, KeepsOthers, not_read, or_not_read, progress_of}
use Rattle.answerer.proofs.AskLemmas.{ask_front, ask_stays, asks_actor, asks_go_on, get_within, length_asks, noted_grow}
use Rattle.answerer.proofs.AnsweredLemmas.{effects-append, stays_on}

-- ---- as it reads

-- more arrivals were noted
pub fits_noted : (actor : ℕ) (entries : List Entry) (p q : Progress) (a : Answers) → FitsIn actor entries p a → AreNoted actor entries q.asks → length p.asks ≤ length q.asks → q.done ≡ p.done → FitsIn actor entries q a
fits_noted actor entries p q a fit noted grew done = record {
  of_board = fit.of_board;
  noted = noted;
  done = omega (arith, fit.done);
  answered = fit.answered;
  tried = subst (λ (n : ℕ). AreTriedBack (asks_of actor entries) (take n entries) a) (sym done) fit.tried;
}

noted_whole : (actor : ℕ) (entries : List Entry) (asks : List (Option Ask)) → asks ≡ asks_of actor entries → AreNoted actor entries asks
noted_whole actor entries asks is =
    let size : length asks ≡ length entries = ap length is ∙ length_asks actor entries in
    record {
      few = omega arith;
      same = is ∙ ap (asks_of actor) (sym (take_all (length asks) entries (omega arith)));
    }

-- all were noted, and what they reply was answered, to some entry
pub fits_answered : (actor : ℕ) (entries : List Entry) (p q : Progress) (a b : Answers) → FitsIn actor entries p a → p.asks ≡ asks_of actor entries → q.asks ≡ p.asks → Answered p.asks (effects_in entries) a b
    → q.done ≤ length entries → AreTriedBack p.asks (take q.done entries) b → FitsIn actor entries q b
fits_answered actor entries p q a b fit all same on within tried =
    let whole : q.asks ≡ asks_of actor entries = same ∙ all in
    let size : length q.asks ≡ length entries = ap length whole ∙ length_asks actor entries in
    record {
      of_board = on.of_board;
      noted = noted_whole actor entries q.asks whole;
      done = omega arith;
      answered = λ ask h own. by ask own (on.listed ask h);
      tried = subst (λ (asks : List (Option Ask)). AreTriedBack asks (take q.done entries) b) all tried;
    }
  where
    by : (ask : Ask) → ask.actor ≡ actor → IsIn ask a.asks ⊎ IsAnswer p.asks (effects_in entries) b ask → (value : Value) × (known b ask ≡ Some value) × IsReply entries ask value
    by ask own (inl h) =
        let (value, is, reply) = fit.answered ask h own in
        (value, stays_on (Some value) (known a ask) (known b ask) is (on.stays ask), reply)
    by ask own (inr answer) =
        let here : ask_at (asks_of ask.actor entries) answer.number ≡ Some ask =
        ap (λ (k : ℕ). ask_at (asks_of k entries) answer.number) own ∙ ap (λ (asks : List (Option Ask)). ask_at asks answer.number) (sym all) ∙ answer.here in
        (answer.value, answer.is_known, (answer.number, here, answer.replied))

-- ---- beside another actor

pub alike_same : (other : ℕ) (a : Answers) → IsOfBoard a → IsAlike other a a
alike_same other a of = record { board = refl; of_board = of; known_same = λ ask own. refl; kept = λ ask own h. h; back = λ ask own h. h }

pub alike_answered : (actor other : ℕ) (entries : List Entry) (effects : List Effect) (a b : Answers) → other ≢ actor → Answered (asks_of actor entries) effects a b → IsAlike other a b
alike_answered actor other entries effects a b differ on = record {
  board = on.board;
  of_board = on.of_board;
  known_same = λ ask own. on.others ask (λ number e. apart ask number own e);
  kept = λ ask own h. on.kept ask h;
  back = λ ask own h. by ask own (on.listed ask h);
}
  where
    apart : (ask : Ask) (number : ℕ) → ask.actor ≡ other → ask_at (asks_of actor entries) number ≡ Some ask → ⊥
    apart ask number own e = differ (sym own ∙ asks_actor actor entries number ask e)

    by : (ask : Ask) → ask.actor ≡ other → IsIn ask a.asks ⊎ IsAnswer (asks_of actor entries) effects b ask → IsIn ask a.asks
    by ask own (inl h) = h
    by ask own (inr answer) = absurd (apart ask answer.number own answer.here)

alike_back : (other : ℕ) (a b : Answers) → IsOfBoard a → IsAlike other a b → IsAlike other b a
alike_back other a b of alike = record {
  board = sym alike.board;
  of_board = of;
  known_same = λ ask own. sym (alike.known_same ask own);
  kept = alike.back;
  back = alike.kept;
}

pub fits_alike : (actor : ℕ) (entries : List Entry) (p : Progress) (a b : Answers) → IsAlike actor a b → FitsIn actor entries p a → FitsIn actor entries p b
fits_alike actor entries p a b alike fit = record {
  of_board = alike.of_board;
  noted = fit.noted;
  done = fit.done;
  answered = λ ask h own.
      let (value, is, reply) = fit.answered ask (alike.back ask own h) own in
      (value, alike.known_same ask own ∙ is, reply);
  tried = λ place entry number value ask there h back here has.
      let own : ask.actor ≡ actor = asks_actor actor entries number ask here in
      let before : HasAsk a.board.now ask = subst (λ (board : AskBoard). HasAsk board ask) alike.board has in
      by ask value own (fit.tried place entry number value ask there h back here before);
}
  where
    by : (ask : Ask) (value : Value) → ask.actor ≡ actor → IsTried a ask value → IsTried b ask value
    by ask value own (inl h) = inl (alike.kept ask own h)
    by ask value own (inr another) = inr (subst (λ (o : Option Value). KnowsAnother o value) (sym (alike.known_same ask own)) another)

-- ---- as arrivals go on

reply_grows : (entries more : List Entry) (ask : Ask) (value : Value) → IsReply entries ask value → IsReply (entries ++ more) ask value
reply_grows entries more ask value (number, here, replied) =
    let now : ask_at (asks_of ask.actor (entries ++ more)) number ≡ Some ask =
    ap (λ (asks : List (Option Ask)). ask_at asks number) (asks_go_on ask.actor entries more) ∙ ask_stays (asks_of ask.actor entries) (asks_behind ask.actor entries more) number ask here in
    (number, now, subst (IsIn (Reply number value)) (sym (effects-append entries more)) (IsIn-append_left (Reply number value) (effects_in entries) (effects_in more) replied))

pub fits_in_grow : (actor : ℕ) (entries more : List Entry) (p : Progress) (a : Answers) → FitsIn actor entries p a → FitsIn actor (entries ++ more) p a
fits_in_grow actor entries more p a fit =
    let few = fit.noted.few in
    let within : p.done ≤ length entries = omega (arith, fit.done) in
    let same : take p.done (entries ++ more) ≡ take p.done entries = take-append-le p.done entries more within in
    record {
      of_board = fit.of_board;
      noted = noted_grow actor entries more p.asks fit.noted;
      done = fit.done;
      answered = λ ask h own.
          let (value, is, reply) = fit.answered ask h own in
          (value, is, reply_grows entries more ask value reply);
      tried = λ place entry number value ask there h back here has.
          let old : slice_get (take p.done entries) place ≡ Some entry = ap (λ (es : List Entry). slice_get es place) (sym same) ∙ there in
          let inside = get_within (take p.done entries) place entry old in
          let size : length (take p.done entries) ≡ p.done = length-take-le p.done entries within in
          let count : length (asks_of actor entries) ≡ length entries = length_asks actor entries in
          let first : ask_at (asks_of actor entries) number ≡ Some ask =
          sym (ask_front (asks_of actor entries) (asks_behind actor entries more) number (omega arith))
          ∙ ap (λ (asks : List (Option Ask)). ask_at asks number) (sym (asks_go_on actor entries more)) ∙ here in
          fit.tried place entry number value ask old h back first has;
    }

pub fits_grow : FitsGrow
fits_grow answerer actor entries more fit = record { rows = fit.rows; known = fit.known; fits = fits_in_grow actor entries more (progress_of answerer actor) answerer.answers fit.fits }

-- ---- the rows of all actors

none_read : (n k : ℕ) → or_not_read (slice_get (replicate n not_read) k) ≡ not_read
none_read zero k = refl
none_read (suc n) zero = refl
none_read (suc n) (suc k) = none_read n k

pub fits_nothing : (answerer : Answerer) (n : ℕ) → n ≡ 32 → IsOfBoard answerer.answers → answerer.answers.asks ≡ [] → answerer.progress ≡ replicate n not_read → FitsNothing answerer
fits_nothing answerer n many of none rows actor =
    let nothing : progress_of answerer actor ≡ not_read = ap (λ (own : List Progress). or_not_read (slice_get own actor)) rows ∙ none_read n actor in
    record {
      rows = ap length rows ∙ length-replicate n not_read ∙ many;
      known = λ ask h. absurd (subst (IsIn ask) none h);
      fits = subst (λ (p : Progress). FitsIn actor [] p answerer.answers) (sym nothing) record {
        of_board = of;
        noted = record { few = omega arith; same = refl };
        done = omega arith;
        answered = λ ask h own. absurd (subst (IsIn ask) none h);
        tried = λ place entry number value ask there h back here has. absurd cc;
      };
    }

pub fits_there : (old : Answerer) (actor : ℕ) (entries : List Entry) (p : Progress) → slice_get old.progress actor ≡ Some p → Fits old actor entries → FitsIn actor entries p old.answers
fits_there old actor entries p at fit = subst (λ (q : Progress). FitsIn actor entries q old.answers) (ap or_not_read at) fit.fits

-- what was listed before stays known, and of what this actor replied a value is known too
known_read : (actor : ℕ) (entries : List Entry) (q : Progress) (a b : Answers) → AreKnown a → FitsIn actor entries q b → ((other : ℕ) → other ≢ actor → IsAlike other a b) → AreKnown b
known_read actor entries q a b before now alike ask h =
    dite (ℕ_discrete ask.actor actor)
    (λ (same : ask.actor ≡ actor).
    let (value, is, reply) = now.answered ask h same in
    subst (λ (o : Option Value). IsSome o) (sym is) refl)
    (λ (differ : ask.actor ≢ actor).
    let other = alike ask.actor differ in
    subst (λ (o : Option Value). IsSome o) (sym (other.known_same ask refl)) (before ask (other.back ask refl h)))

pub fits_read : (old : Answerer) (actor : ℕ) (entries : List Entry) (p q : Progress) (b : Answers) → slice_get old.progress actor ≡ Some p → Fits old actor entries → FitsIn actor entries q b → ((other : ℕ) → other ≢ actor → IsAlike other old.answers b)
    → Fits (record { answers = b; progress = slice_set old.progress actor q }) actor entries
fits_read old actor entries p q b at fit now alike =
    let here : slice_get (slice_set old.progress actor q) actor ≡ Some q = get_same old.progress actor p q at in
    record {
      rows = length-set old.progress actor q ∙ fit.rows;
      known = known_read actor entries q old.answers b fit.known now alike;
      fits = subst (λ (r : Progress). FitsIn actor entries r b) (sym (ap or_not_read here)) now;
    }

pub others_read : (old : Answerer) (actor : ℕ) (entries : List Entry) (p q : Progress) (b : Answers) → slice_get old.progress actor ≡ Some p → Fits old actor entries → FitsIn actor entries q b → ((other : ℕ) → other ≢ actor → IsAlike other old.answers b)
    → KeepsOthers old (record { answers = b; progress = slice_set old.progress actor q }) actor
others_read old actor entries p q b at fit read alike = λ other differ own. (forward other differ own, backward other differ own)
  where
    now : Answerer
    now = record { answers = b; progress = slice_set old.progress actor q }

    same : (other : ℕ) → other ≢ actor → progress_of now other ≡ progress_of old other
    same other differ = ap or_not_read (get_other old.progress actor other q differ)

    forward : (other : ℕ) → other ≢ actor → (own : List Entry) → Fits old other own → Fits now other own
    forward other differ own f = record {
      rows = length-set old.progress actor q ∙ fit.rows;
      known = known_read actor entries q old.answers b fit.known read alike;
      fits = subst (λ (r : Progress). FitsIn other own r b) (sym (same other differ)) (fits_alike other own (progress_of old other) old.answers b (alike other differ) f.fits);
    }

    backward : (other : ℕ) → other ≢ actor → (own : List Entry) → Fits now other own → Fits old other own
    backward other differ own f = record {
      rows = fit.rows;
      known = fit.known;
      fits = fits_alike other own (progress_of old other) b old.answers (alike_back other old.answers b fit.fits.of_board (alike other differ)) (subst (λ (r : Progress). FitsIn other own r b) (same other differ) f.fits);
    }
