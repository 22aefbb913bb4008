-- One digit is stored at once; of more, the digits of a tenth first, by a call with the smaller number, and the last behind them.
use Rattle.text.proofs.+put_decimal.Given as goal

abbrev pub decreases-put_decimal : goal.decreases-put_decimal
decreases-put_decimal l = l.v
