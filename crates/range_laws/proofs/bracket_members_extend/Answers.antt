use Rattle.range_laws.proofs.Extended.{members_extend}
use Rattle.range_laws.proofs.bracket_members_extend.Goals as goal

pub returns : goal.returns
returns c = members_extend c.each_class_lifts.ensures c.lifts_give_one_product.ensures c.bracket_has_member.ensures c.bracket_is_coset.ensures
