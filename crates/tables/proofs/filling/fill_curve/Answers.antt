use Rattle.tables.proofs.FillSteps.{drawing}
use Rattle.tables.proofs.filling.fill_curve.Goals as goal

pub loop-init : goal.loop-init
loop-init c = search drawing

pub value_at-v-requires : goal.value_at-v-requires
value_at-v-requires c = search drawing

pub overflow_add-at : goal.overflow_add-at
overflow_add-at c = search drawing

pub value_at-w-requires : goal.value_at-w-requires
value_at-w-requires c = search drawing

pub span_at-span-requires : goal.span_at-span-requires
span_at-span-requires c = search drawing

pub fill_span-next-requires : goal.fill_span-next-requires
fill_span-next-requires c = search drawing

pub overflow_add-at-in-loop : goal.overflow_add-at-in-loop
overflow_add-at-in-loop c = search drawing

pub loop-preserved : goal.loop-preserved
loop-preserved c = search drawing

pub value_at-v-requires-2 : goal.value_at-v-requires-2
value_at-v-requires-2 c = search drawing

pub fill_last-requires : goal.fill_last-requires
fill_last-requires c = search drawing

pub shape_of-values : goal.shape_of-values
shape_of-values c = search drawing

pub returns : goal.returns
returns c = search drawing
