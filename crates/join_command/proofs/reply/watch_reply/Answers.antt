use Rattle.command_words.specs.Views.{run_in}
use Rattle.join_command.proofs.ReplyLemmas.{watch_feeds_stopped, watch_replied, watch_script_stopped}
use Rattle.join_command.proofs.reply.watch_reply.Goals as goal

pub returns-in-Err-clause-told : goal.returns-in-Err-clause-told
returns-in-Err-clause-told g c = watch_script_stopped (run_in c.args.run.now) c.args.monitors (g.I.Inputs.tells c.args.inputs.now) (g.I.Inputs.tells c.load_script.new.inputs) c.in-Err.stop c.in-Err.ensures.told

pub returns-in-Err-load_feeds-clause-told : goal.returns-in-Err-load_feeds-clause-told
returns-in-Err-load_feeds-clause-told g c =
    watch_feeds_stopped (run_in c.args.run.now) c.args.monitors c.in-Ok.plan (g.I.Inputs.tells c.args.inputs.now) (g.I.Inputs.tells c.load_script.new.inputs) (g.I.Inputs.tells c.load_feeds.new.inputs) c.in-Err-load_feeds.stop
    c.in-Ok.ensures.told (rw c.as_slice.ensures.value at c.in-Err-load_feeds.ensures.told)

pub returns-in-Ok-load_feeds-clause-told : goal.returns-in-Ok-load_feeds-clause-told
returns-in-Ok-load_feeds-clause-told g c =
    watch_replied (run_in c.args.run.now) c.args.monitors c.in-Ok.plan (g.I.Inputs.tells c.args.inputs.now) (g.I.Inputs.tells c.load_script.new.inputs) (g.I.Inputs.tells c.load_feeds.new.inputs) c.in-Ok-load_feeds.feeds
    c.in-Ok.ensures.told (rw c.as_slice.ensures.value at c.in-Ok-load_feeds.ensures.told)
