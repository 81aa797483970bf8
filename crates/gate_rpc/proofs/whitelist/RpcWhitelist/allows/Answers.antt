use Rattle.std.proofs.Common.{◌≡◌, ◌∙◌, subst, arith}
use Rattle.gate_rpc.specs.Lists.{Lists, is_allowed}
use Rattle.gate_rpc.proofs.Listings.{allowed}
use Rattle.gate_rpc.proofs.whitelist.RpcWhitelist.allows.Goals as goal

pub returns : goal.returns
returns c =
    subst (λ (lists : Lists). c.unwrap_or.result ≡ is_allowed lists c.args.user.now c.args.method.now) c.self.view_is
    (c.unwrap_or.ensures ∙ allowed _ c.args.user.now c.args.method.now _ c.loop-entry.entry-index c.loop-entry.listed c.as_slice-entry-items.ensures (omega (arith, c.loop-entry-test.false)) c.loop-entry.invariant)
