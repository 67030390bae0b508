use Rattle.std.proofs.Common.{◌<◌}
use Rattle.tw_msgs.specs.declared.message.Message.{Message}
use Rattle.tw_network.specs.Contents.{network_of}
use Rattle.tw_theory.specs.Network.{Fits}
use Rattle.tw_theory.proofs.Elements.{each_weaker}
use Rattle.tw_vtime.specs.Stamps.{never}
use Rattle.tw_exchange.proofs.queues.Queues.note_post.Goals as goal

pub is_idle-idle-requires : goal.is_idle-idle-requires
is_idle-idle-requires g c =
    let p = c.contents.result.now.process in
    each_weaker (Fits (network_of g.M.Atomic.meaning c.args.executive.now.network)) (λ (m : Message). m.stamp < never) (λ m f. f.stamp) p.owed (c.facts.ensures.sound.each c.args.component p c.contents.ensures.process).fit_owed
