-- The laws of the reply over a history, and of answerers.
use Rattle.std.proofs.Common.{◌≡◌, ◌∙◌, List, length, refl, ap, subst, sym}
use Rattle.std.specs.Option.{option_and_then}
use Rattle.guard_eval.proofs.ReadyLemmas.{each_at}
use Rattle.fair_semantics.specs.declared.run.ActorRun.{ActorRun}
use Rattle.fair_semantics.specs.declared.run.Entry.{Entry}
use Rattle.fair_semantics.specs.Step.{Setting, opening}
use Rattle.fair_semantics.specs.Fair.{Sent, fair, setting_of}
use Rattle.feed_answers.specs.Answers.{reply_at}
use Rattle.feed_answers.specs.Queues.{AreNumbered, HasNumbers}
use Rattle.feed_answers.proofs.GrowLemmas.{answers_stay, stamps_no_matter}
use Rattle.feed_answers.proofs.NumberedLemmas.{all_numbered, numbered_run}
use Rattle.run_laws.specs.Replies.{TakesOnce}
use Rattle.run_laws.proofs.LawLemmas.{fair_takes_once, linked_takes_once}
use Rattle.history_law.specs.History.{entries_by, history_in}
use Rattle.history_law.proofs.HistoryLemmas.{entries_go_on, runs_show_histories, sources_no_matter}
use Rattle.answer_law.specs.Replies.{AnswersAgree, ReadersAgree, RepliesAreOne, RepliesStay, RunsAnswer}
use Rattle.answer_law.proofs.OneLemmas.{one_reply}

pub replies_stay : RepliesStay
replies_stay setting before after feed place value prefix here =
    let (more, whole) = entries_go_on setting before after prefix in
    ap (λ (es : List Entry). reply_at es feed place) (sym whole) ∙ answers_stay (entries_by setting before) more feed place value here

pub runs_answer : RunsAnswer
runs_answer plan limits feeds run linked actor own there feed place =
    let made : List Entry = entries_by (setting_of plan actor limits) (history_in feeds run actor own) in
    ap (option_and_then (λ (r : ActorRun). reply_at r.entries feed place)) there
    ∙ sym (stamps_no_matter own.entries feed place)
    ∙ ap (λ (es : List Entry). reply_at es feed place) (runs_show_histories plan limits feeds run linked actor own there)
    ∙ stamps_no_matter made feed place

pub replies_are_one : RepliesAreOne
replies_are_one plan limits actor history typed ask value reply =
    let setting : Setting = setting_of plan actor limits in
    let once = fair_takes_once plan actor limits 0 history typed in
    let same : (fair plan actor limits 0 history).entries ≡ entries_by setting history = sources_no_matter setting 0 (length plan.actors) history in
    let numbered : AreNumbered (entries_by setting history) = all_numbered setting history (opening 0 0) refl in
    one_reply (entries_by setting history) ask value numbered (subst TakesOnce same once).replied reply

pub answers_agree : AnswersAgree
answers_agree plan limits feeds run typed linked answerer ask own there fit listed =
    let (value, is, reply) = fit.fits.answered ask listed refl in
    let history : List Sent = history_in feeds run ask.actor own in
    (value, is, runs_answer plan limits feeds run linked ask.actor own there ask.feed ask.place ∙ replies_are_one plan limits ask.actor history typed ask value reply)

pub readers_agree : ReadersAgree
readers_agree plan limits feeds run typed linked answerer ask own there fit listed =
    let (value, is, reply) = fit.fits.answered ask listed refl in
    let once = linked_takes_once plan limits feeds run typed linked ask.actor own there in
    let numbered : HasNumbers own = each_at HasNumbers run.actors ask.actor own there (numbered_run plan limits feeds run linked) in
    (value, is, ap (option_and_then (λ (r : ActorRun). reply_at r.entries ask.feed ask.place)) there ∙ one_reply own.entries ask value numbered once.replied reply)
