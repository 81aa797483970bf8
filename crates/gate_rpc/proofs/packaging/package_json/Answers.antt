use Rattle.std.proofs.Common.{◌∙◌, ap}
use Rattle.std.specs.List.{flat_map}
use Rattle.json.specs.Print.{quoted}
use Rattle.serde_json.specs.Written.{compact_text}
use Rattle.gate_rpc.specs.Packages.{members_json, replaced_by}
use Rattle.gate_rpc.specs.Values.{txids_json}
use Rattle.gate_rpc.proofs.Packaged.{package_whole}
use Rattle.gate_rpc.proofs.packaging.package_json.Goals as goal

pub returns : goal.returns
returns c =
    let o = c.args.outcome.now in
    c.in_ok-package_text.ensures
    ∙ package_whole o _ _ _ c.as_str.result.now
    (c.as_str-2.ensures.value ∙ c.in_ok-message.ensures ∙ ap quoted c.message.ensures)
    (c.as_str-3.ensures.value ∙ c.in_ok-replaced-2.ensures ∙ ap (λ ids. compact_text (txids_json ids)) (c.as_slice.ensures.value ∙ c.in_ok-replaced.ensures ∙ ap (λ members. flat_map replaced_by members) c.as_slice-members.ensures))
    (c.as_str-4.ensures.value ∙ c.in_ok-rest.ensures)
    (c.as_str.ensures.value ∙ c.in_ok-results.ensures ∙ ap (λ members. compact_text (members_json o.together members)) c.as_slice-members.ensures)
