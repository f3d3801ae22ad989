-- What is told in each layout.
use Rattle.lift_laws.specs.Lifts.{EachClassLifts}
use Rattle.lift_laws.specs.Products.{LiftsGiveOneProduct}
use Rattle.ext_products.proofs.Several.{answers-exist, answers-unique}
use Rattle.ext_table.specs.declared.layout.Layout.TheVariants.{Lists, Table}
use Rattle.ext_table.specs.Layouts.{EachLayoutHasAnswer, EachLayoutHasOneAnswer, LayoutsRefuseAlike}
use Rattle.ext_table.proofs.Told.{tables-exist, tables-unique, refused}

pub layout-exists : EachClassLifts → LiftsGiveOneProduct → EachLayoutHasAnswer
layout-exists lifts one Lists shape range by = answers-exist lifts one shape range by
layout-exists lifts one Table shape range by = tables-exist lifts one shape range by

pub layout-unique : EachLayoutHasOneAnswer
layout-unique Lists shape range by = answers-unique shape range by
layout-unique Table shape range by = tables-unique shape range by

pub refused-alike : LayoutsRefuseAlike
refused-alike Lists shape range by r q refusal h = h
refused-alike Table shape range by r q refusal h = refused shape range by r q refusal h
