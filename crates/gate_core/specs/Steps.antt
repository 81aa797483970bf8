-- The step: the reply to an event and the state after it, one case for each kind of event.
use Rattle.gate_rpc.specs.Calls.{request_of}
use Rattle.gate_message.specs.declared.event.Event.{Event}
use Rattle.gate_message.specs.declared.event.Event.TheVariants.{Enter, Leave, Tx as Submit, Package, Mempool, GetBlock, Headers, FeeFilter, Rpc, SetFloor, Set as Turn, Chain as OfChain}
use Rattle.gate_message.specs.declared.reply.Reply.{Reply}
use Rattle.gate_message.specs.declared.reply.Reply.TheVariants.{Set}
use Rattle.gate_core.specs.World.{World}
use Rattle.gate_core.specs.PeerSteps.{entering_step, leaving_step, submission_step, listing_step, block_step, headers_step, filter_step}
use Rattle.gate_core.specs.Pairing.{package_step}
use Rattle.gate_core.specs.RpcSteps.{rpc_step}
use Rattle.gate_core.specs.Switching.{switched}
use Rattle.gate_core.specs.ChainSteps.{chain_step}

unfoldable pub step_of : World → Event → Reply × World
step_of w (Enter peer address) = entering_step w peer address
step_of w (Leave peer) = leaving_step w peer
step_of w (Submit peer now transaction) = submission_step w peer now transaction
step_of w (Package peer now parent child) = package_step w peer now parent child
step_of w (Mempool peer) = listing_step w peer
step_of w (GetBlock peer height) = block_step w peer height
step_of w (Headers peer height) = headers_step w peer height
step_of w (FeeFilter peer rate) = filter_step w peer rate
step_of w (Rpc call) = rpc_step w call.user call.time (request_of call.json)
step_of w (SetFloor rate) = (Set, record w { floor = rate })
step_of w (Turn switch on) = (Set, record w { switches = switched w.switches switch on })
step_of w (OfChain event) = chain_step w event
