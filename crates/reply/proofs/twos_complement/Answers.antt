use Rattle.reply.proofs.Signed.{bits_below, bits_above}
use Rattle.reply.proofs.twos_complement.Goals as goal

pub returns-then-v-lt9223372036854775808 : goal.returns-then-v-lt9223372036854775808
returns-then-v-lt9223372036854775808 c = bits_below _ c.if-v-lt9223372036854775808.true

pub returns-else-v-lt9223372036854775808 : goal.returns-else-v-lt9223372036854775808
returns-else-v-lt9223372036854775808 c = bits_above _ c.if-v-lt9223372036854775808.false
