use Rattle.lines.proofs.Spelling.{digit_low, digit-high}
use Rattle.lines.proofs.hex.digit.Goals as goal

pub returns-then-v-lt10 : goal.returns-then-v-lt10
returns-then-v-lt10 c = digit_low _ c.if-v-lt10.true

pub returns-else-v-lt10 : goal.returns-else-v-lt10
returns-else-v-lt10 c = digit-high _ c.if-v-lt10.false
