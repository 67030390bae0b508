use Rattle.tw_network.proofs.Names.{look_up_finds, look_up_misses}
use Rattle.tw_network.proofs.network.Network.find.Goals as goal

pub returns-clause-found : goal.returns-clause-found
returns-clause-found g c = rw (c.get_index_of.ensures.index, ← c.self.view_is) (look_up_finds c.args.name.now c.self.inside.names.keys)

pub returns-clause-absent : goal.returns-clause-absent
returns-clause-absent g c = rw (c.get_index_of.ensures.index, ← c.self.view_is) (look_up_misses c.args.name.now c.self.inside.names.keys)
