use Rattle.std.proofs.Common.{◌≡◌, ◌<◌, ◌≤◌, ℕ, List, length, get_or, take, sym, ap, subst, ◌∙◌, arith, true, false, if◌then◌else◌, Bool}
use Rattle.gate_net.specs.declared.entry.WhitelistEntry.{WhitelistEntry}
use Rattle.gate_net.specs.Permissions.{Permissions, no_permissions, union}
use Rattle.gate_net.specs.Whitelists.{implicit_flags}
use Rattle.gate_net.proofs.Flags.{union_none}
use Rattle.gate_net.proofs.Given.{so_far_more, so_far_all}
use Rattle.gate_net.proofs.whitelist.Whitelist.flags_of.Goals as goal

pub loop-entry-preserved : goal.loop-entry-preserved
loop-entry-preserved c =
    let within : c.loop-entry.entry-index < length c.args.self.now.entries = subst (λ (es : List WhitelistEntry). c.loop-entry.entry-index < length es) c.as_slice-entry-items.ensures c.loop-entry-test.true in
    let is = c.entry-item.is ∙ ap (λ (es : List WhitelistEntry). get_or es c.loop-entry.entry-index c.entry-item.result) c.as_slice-entry-items.ensures in
    so_far_more _ _ _ _ c.args.self.now c.args.address.now c.args.self.now.entries c.loop-entry.entry-index c.entry-item.result within is c.with-found.ensures.flags c.with-found.ensures.mark c.loop-entry.invariant

pub returns-then-found : goal.returns-then-found
returns-then-found c =
    let ended : length c.args.self.now.entries ≤ c.loop-entry.entry-index = subst (λ (es : List WhitelistEntry). length es ≤ c.loop-entry.entry-index) c.as_slice-entry-items.ensures c.loop-entry-test.false in
    c.union.ensures
    ∙ (ap (union c.loop-entry.found.flags) (c.implicit.ensures ∙ ap (λ (b : Bool). if b then implicit_flags c.args.self.now else no_permissions) (sym c.if-found.true))
    ∙ so_far_all c.loop-entry.found.flags c.loop-entry.found.is_implicit c.args.self.now c.args.address.now c.loop-entry.entry-index ended c.loop-entry.invariant)

pub returns-else-found : goal.returns-else-found
returns-else-found c =
    let ended : length c.args.self.now.entries ≤ c.loop-entry.entry-index = subst (λ (es : List WhitelistEntry). length es ≤ c.loop-entry.entry-index) c.as_slice-entry-items.ensures c.loop-entry-test.false in
    sym (union_none c.loop-entry.found.flags)
    ∙ (ap (λ (b : Bool). union c.loop-entry.found.flags (if b then implicit_flags c.args.self.now else no_permissions)) (sym c.if-found.false)
    ∙ so_far_all c.loop-entry.found.flags c.loop-entry.found.is_implicit c.args.self.now c.args.address.now c.loop-entry.entry-index ended c.loop-entry.invariant)
