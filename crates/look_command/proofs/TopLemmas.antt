-- From what was prepared and written to the answer.
use Rattle.std.proofs.Common.{◌≡◌, inl, inr, ℕ, List, [], ◌++◌, Option, None, Some, refl, sym, ap, ◌∙◌, subst}
use Rattle.std.proofs.lemmas.List.{append-nil}
use Rattle.std.specs.Prelude.{Result, Ok, Err}
use Rattle.join_base.specs.declared.outside.Failed.{Failed}
use Rattle.join_base.specs.Outside.{Files, Told}
use Rattle.join_command.specs.declared.status.Status.{Status}
use Rattle.join_command.specs.declared.status.Status.TheVariants as status
use Rattle.script_files.specs.declared.stop.Refusal.{Refusal}
use Rattle.script_files.specs.declared.stop.Stop.{Stop}
use Rattle.script_files.specs.declared.stop.Stop.TheVariants as stop
use Rattle.join_command.specs.declared.top.Unanswered.{Unanswered}
use Rattle.script_files.specs.Loading.{Tells, refused_as}
use Rattle.join_command.specs.Output as usual_output
use Rattle.join_command.specs.Top.{IsAnswered}
use Rattle.script_files.specs.Verdict as usual
use Rattle.join_command.specs.Verdict.{Words, replay_asks_nothing}
use Rattle.counted_sink.specs.Writing.{Writes}
use Rattle.look_command.specs.declared.reply.Reply.{Reply}
use Rattle.look_command.specs.Answer.{AnswersWhereTold, CompletesWhereTold, Decides, IsAnswer}
use Rattle.look_command.specs.Output.{IsOutput}
use Rattle.look_command.specs.Preparing.{DecidesOutput, Prepares, PreparesOutput, PreparesRequest}
use Rattle.look_command.specs.Replying.{Replies, verdict_of}
use Rattle.look_command.specs.Request.{Request, Audit, Reactions, Why, request_of}
use Rattle.look_command.specs.Verdict.{MayAskBy, OfWords, OneVerdict, Usual, Verdict, asks_nothing}

-- ---- a request

module _ (request : Request) where
  pub replied : (before now : Option Told) (answer : Reply) (status : Status) (output : List ℕ) → Tells before now (λ b n. Replies request b n (Ok answer)) → IsOutput (verdict_of answer) status output
      → Tells before now (λ b n. PreparesRequest request b n (Ok (status, output)))
  replied None now answer status output r is = tt
  replied (Some before) None answer status output r is = absurd r
  replied (Some before) (Some now) answer status output r is =
      record { asked = r.asked; told_is = r.told_is; may_ask = r.may_ask; output = record { verdict = verdict_of answer; is_verdict = r.verdict; is_output = is } }

  pub refused : (before now : Option Told) (why : Refusal) (status : Status) (output : List ℕ) → Tells before now (λ b n. Replies request b n (Err (stop.Refused why))) → usual_output.IsOutput (refused_as why) status output
      → Tells before now (λ b n. PreparesRequest request b n (Ok (status, output)))
  refused None now why status output r is = tt
  refused (Some before) None why status output r is = absurd r
  refused (Some before) (Some now) why status output r is =
      record { asked = r.asked; told_is = r.told_is; may_ask = r.may_ask; output = record { verdict = Usual (refused_as why); is_verdict = r.verdict; is_output = is } }

  pub unanswered : (before now : Option Told) (reply : Result Reply Stop) (fault : Unanswered) → Tells before now (λ b n. Replies request b n reply) → Tells before now (λ b n. PreparesRequest request b n (Err fault))
  unanswered None now reply fault r = tt
  unanswered (Some before) None reply fault r = absurd r
  unanswered (Some before) (Some now) reply fault r = record { asked = r.asked; told_is = r.told_is; may_ask = r.may_ask; output = tt }

-- ---- from a request to words

module _ (words : Words) where
  decided : (request : Request) (files : Files) (result : Result (Status × List ℕ) Unanswered) → request_of words ≡ Some request → PreparesOutput request files result → DecidesOutput words files result
  decided request files (Ok p) is o =
      let P : Option Request → Type 0 = λ c. OfWords files c o.verdict in
      record { verdict = o.verdict; is_verdict = subst P (sym is) o.is_verdict; is_output = o.is_output }
  decided request files (Err fault) is o = tt

  pub request_prepared : (request : Request) (before now : Option Told) (result : Result (Status × List ℕ) Unanswered) → request_of words ≡ Some request
      → Tells before now (λ b n. PreparesRequest request b n result) → Tells before now (λ b n. Prepares words b n result)
  request_prepared request None now result is p = tt
  request_prepared request (Some before) None result is p = absurd p
  request_prepared request (Some before) (Some now) result is p =
      let P : Option Request → Type 0 = λ c. MayAskBy before.files c p.asked in
      record { asked = p.asked; told_is = p.told_is; are_asked = subst P (sym is) p.may_ask; output = decided request before.files result is p.output }

  asked_none : (before : Told) → before ≡ record { files = before.files; asked = before.asked ++ [] }
  asked_none before = λ i. record { files = before.files; asked = sym (append-nil before.asked) i }

  asks_none : (files : Files) (o : Option Request) → MayAskBy files o []
  asks_none files None = refl
  asks_none files (Some (Audit script log feeds)) = asks_nothing
  asks_none files (Some (Reactions script log actor)) = replay_asks_nothing
  asks_none files (Some (Why script log actor number)) = replay_asks_nothing

  -- no memory for the request: nothing is asked
  pub nothing_prepared : (told : Option Told) (fault : Unanswered) → Tells told told (λ b n. Prepares words b n (Err fault))
  nothing_prepared None fault = tt
  nothing_prepared (Some before) fault = record { asked = []; told_is = asked_none before; are_asked = asks_none before.files (request_of words); output = tt }

  -- no request: nothing is asked
  pub usage_prepared : (told : Option Told) (output : List ℕ) → request_of words ≡ None → IsOutput (Usual usual.Usage) status.Usage output → Tells told told (λ b n. Prepares words b n (Ok (status.Usage, output)))
  usage_prepared None output is o = tt
  usage_prepared (Some before) output is o =
      let P : Option Request → Type 0 = λ c. MayAskBy before.files c [] in
      let Q : Option Request → Type 0 = λ c. OfWords before.files c (Usual usual.Usage) in
      record { asked = []; told_is = asked_none before; are_asked = subst P (sym is) refl; output = record { verdict = Usual usual.Usage; is_verdict = subst Q (sym is) refl; is_output = o } }

  -- ---- what was written whole

  answered : (files : Files) (answer : Status) (output : List ℕ) → IsAnswered answer → Decides words files answer output → IsAnswer words files answer output
  answered files status.Done output settled decides = decides
  answered files status.Limits output settled decides = decides
  answered files status.Usage output settled decides = decides
  answered files status.ScriptRefused output settled decides = decides
  answered files status.FeedRefused output settled decides = decides
  answered files status.LogRefused output settled decides = decides
  answered files status.ReadFault output settled decides = absurd settled
  answered files status.WriteFault output settled decides = absurd settled
  answered files status.NoMemory output settled decides = absurd settled
  answered files status.TooLong output settled decides = decides

  pub all_written : {X : Type 0} (told told_now : Option Told) (taken taken_now : Option (List ℕ)) (answer : Status) (output : List ℕ) (nothing : X) → IsAnswered answer
      → Tells told told_now (λ before now. Prepares words before now (Ok (answer, output))) → Writes {E = Failed} taken taken_now output (Ok nothing) → AnswersWhereTold words told taken told_now taken_now answer
  all_written None told_now taken taken_now answer output nothing settled prepared wrote = tt
  all_written (Some told) told_now None taken_now answer output nothing settled prepared wrote = tt
  all_written (Some told) None (Some taken) taken_now answer output nothing settled prepared wrote = absurd prepared
  all_written (Some told) (Some told_now) (Some taken) taken_now answer output nothing settled prepared wrote = record {
    written = output;
    asked = prepared.asked;
    taken_is = wrote;
    told_is = ap (λ (t : Told). Some t) prepared.told_is;
    are_asked = prepared.are_asked;
    is_answer = answered told.files answer output settled prepared.output;
  }

  -- ---- nothing was written

  pub nothing_written : (told told_now : Option Told) (taken : Option (List ℕ)) (fault : Unanswered) → Tells told told_now (λ before now. Prepares words before now (Err fault))
      → AnswersWhereTold words told taken told_now taken status.NoMemory
  nothing_written None told_now taken fault prepared = tt
  nothing_written (Some told) told_now None fault prepared = tt
  nothing_written (Some told) None (Some taken) fault prepared = absurd prepared
  nothing_written (Some told) (Some told_now) (Some taken) fault prepared = record {
    written = [];
    asked = prepared.asked;
    taken_is = ap (λ (bytes : List ℕ). Some bytes) (sym (append-nil taken));
    told_is = ap (λ (t : Told). Some t) prepared.told_is;
    are_asked = prepared.are_asked;
    is_answer = refl;
  }

  -- ---- a write that failed

  pub write_failed : (told told_now : Option Told) (taken taken_now : Option (List ℕ)) (answer : Status) (output : List ℕ) (fault : Failed) → Tells told told_now (λ before now. Prepares words before now (Ok (answer, output)))
      → Writes {X = Unit {0}} taken taken_now output (Err fault) → AnswersWhereTold words told taken told_now taken_now status.WriteFault
  write_failed None told_now taken taken_now answer output fault prepared wrote = tt
  write_failed (Some told) told_now None taken_now answer output fault prepared wrote = tt
  write_failed (Some told) None (Some taken) taken_now answer output fault prepared wrote = absurd prepared
  write_failed (Some told) (Some told_now) (Some taken) taken_now answer output fault prepared wrote =
      let P : List ℕ → Type 0 = λ (bytes : List ℕ). Decides words told.files answer bytes in
      record {
        written = wrote.written;
        asked = prepared.asked;
        taken_is = wrote.taken;
        told_is = ap (λ (t : Told). Some t) prepared.told_is;
        are_asked = prepared.are_asked;
        is_answer = record { answer = answer; rest = wrote.rest; decides = subst P wrote.parts prepared.output };
      }

  -- ---- the one verdict

  pub completes : OneVerdict → (told told_now : Option Told) (answer : Status) (output : List ℕ) (read_before read_now write_before write_now : ℕ)
      → Tells told told_now (λ before now. Prepares words before now (Ok (answer, output))) → CompletesWhereTold words told read_before read_now write_before write_now answer
  completes one None told_now answer output read_before read_now write_before write_now prepared = tt
  completes one (Some told) None answer output read_before read_now write_before write_now prepared = absurd prepared
  completes one (Some told) (Some told_now) answer output read_before read_now write_before write_now prepared = λ verdict is reads writes.
      let d = prepared.output in
      let P : Verdict → Type 0 = λ (v : Verdict). IsOutput v answer output in
      inl (output, subst P (one words told.files d.verdict verdict d.is_verdict is) d.is_output)
