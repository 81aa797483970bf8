use Rattle.std.proofs.Common.{sym, subst, arith, ◌∙◌}
use Rattle.std.specs.declared.net.ip_addr.IpAddr.TheVariants as Ip
use Rattle.std.specs.Net.Addr.{ipv4_octets, ipv6_segments}
use Rattle.std.specs.Net.Grammar.{IsIpText}
use Rattle.std.proofs.lemmas.Bool.{true≢false}
use Rattle.std.proofs.lemmas.Str.Pattern.{contains_char}
use Rattle.gate_net.specs.Addresses.{V4, V6}
use Rattle.gate_net.proofs.Spelled.{written_spelled}
use Rattle.gate_net.proofs.Written.{dot_at, dots_nowhere, not_written, none_written}
use Rattle.gate_net.proofs.address.written.Goals as goal

pub returns-in-Ok-V4 : goal.returns-in-Ok-V4
returns-in-Ok-V4 c =
    let is : IsIpText c.args.text.now (Ip.V4 c.in-Ok-V4.ip) = subst (IsIpText c.args.text.now) c.in-Ok-V4.field-0-is c.in-Ok-V4.ensures.value in
    sym (written_spelled c.args.text.now (V4 (ipv4_octets c.in-Ok-V4.ip)) is)

pub returns-then-contains : goal.returns-then-contains
returns-then-contains c =
    let is : IsIpText c.args.text.now (Ip.V6 c.in-Ok-V6.ip) = subst (IsIpText c.args.text.now) c.in-Ok-V6.field-0-is c.in-Ok-V6.ensures.value in
    let at = (contains_char 46 c.args.text.now c.contains.result c.contains.ensures.cases (omega arith)).0 c.if-contains.true in
    not_written c.args.text.now (ipv6_segments c.in-Ok-V6.ip) is (dot_at c.args.text.now at.0 at.1 at.2)

pub returns-else-contains : goal.returns-else-contains
returns-else-contains c =
    let is : IsIpText c.args.text.now (Ip.V6 c.in-Ok-V6.ip) = subst (IsIpText c.args.text.now) c.in-Ok-V6.field-0-is c.in-Ok-V6.ensures.value in
    let at = (contains_char 46 c.args.text.now c.contains.result c.contains.ensures.cases (omega arith)).1 in
    let none = dots_nowhere c.args.text.now (λ k h dot. true≢false (sym (at k h dot) ∙ c.if-contains.false)) in
    sym (written_spelled c.args.text.now (V6 (ipv6_segments c.in-Ok-V6.ip)) (is, none))

pub returns-in-Err : goal.returns-in-Err
returns-in-Err c = none_written c.args.text.now c.in-Err.ensures.value
