-- the replies in the form of the encoding are the bytes of the batches
use Rattle.std.proofs.Common.{List, ℕ}
use Rattle.metric_kit_commands.specs.declared.fault.KitFault.{KitFault}
use Rattle.metric_kit_commands.specs.Replaying.{IsEncodedOutput, IsFormed, IsReplayFault, plain_options}
use Rattle.metric_kit_commands.specs.Replies.{encoded_reply}
use Rattle.metric_kit_commands.proofs.FormLaws.{is_encoded, of_kind}
use Rattle.metric_kit_commands.proofs.replays.replay_encoded.Goals as goal

pub returns : goal.returns
returns g c =
    let encode = g.E.Encoding.text c.args.encoding.now in
    let options = plain_options c.args.trial in
    let read = c.args.parts.now in
    let first : List ℕ → KitFault → Type 0 = λ _ fault. IsReplayFault options fault read in
    of_kind (λ _. IsFormed (encoded_reply encode) options read) (λ _. IsEncodedOutput encode options read) first _ _ _ (λ _. is_encoded encode c.args.trial read) c.run_parts.ensures
