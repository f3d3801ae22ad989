use Rattle.std.proofs.Common.{◌++◌, map, codes, ap, ◌∙◌}
use Rattle.finite_module.specs.Text.{newline}
use Rattle.module_build.specs.FileText.{joined_by_comma, member, actions}
use Rattle.module_build.proofs.FileSteps.{joined_members, joined_actions, whole_text}
use Rattle.module_build.proofs.file.file_text.Goals as goal

pub returns : goal.returns
returns c =
    let m = c.args.given.now.plain in
    whole_text (codes "{\"type\":\"finite dimensional module\",\"p\":2,\"gens\":{") (joined_by_comma (map member m.generators)) (codes "},\"actions\":[") (joined_by_comma (actions m)) (codes "]}" ++ newline)
    c.in_ok-text.text.items c.extend_from_slice.new.self.items c.extend_from_slice-2.new.self.items c.extend_from_slice-3.new.self.items c.extend_from_slice-4.new.self.items
    c.in_ok-text.ensures.items
    (c.in_ok-extend_from_slice.ensures.items ∙ ap (λ x. c.in_ok-text.text.items ++ x) (c.as_slice.ensures.value ∙ c.in_ok-members.ensures ∙ joined_members m.generators))
    c.in_ok-extend_from_slice-2.ensures.items
    (c.in_ok-extend_from_slice-3.ensures.items ∙ ap (λ x. c.extend_from_slice-2.new.self.items ++ x) (c.as_slice-2.ensures.value ∙ c.in_ok-actions.ensures ∙ joined_actions m))
    c.in_ok-extend_from_slice-4.ensures.items
