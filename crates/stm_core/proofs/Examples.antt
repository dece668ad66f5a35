-- The worked lists are computed.
use Rattle.std.proofs.Common.{refl}
use Rattle.stm_core.specs.Examples.{WorkedLists}

pub worked_lists : WorkedLists
worked_lists = record {
  overtaken_is_allowed = (
    _,
    (
      (refl, tt),
      (
        (refl, tt),
        (
          (refl, tt),
          (
            (refl, tt),
            (
              (refl, tt),
              (
                (refl, tt),
                (
                  (refl, tt),
                  (
                    (refl, tt),
                    (
                      (refl, tt),
                      (
                        (refl, tt),
                        (
                          (refl, tt),
                          (
                            (refl, tt),
                            (
                              (refl, tt),
                              (
                                (refl, tt),
                                (
                                  (refl, tt),
                                  (
                                    (refl, tt),
                                    (
                                      (refl, tt),
                                      (
                                        (refl, tt),
                                        ((refl, tt), ((refl, tt), refl)),
                                      ),
                                    ),
                                  ),
                                ),
                              ),
                            ),
                          ),
                        ),
                      ),
                    ),
                  ),
                ),
              ),
            ),
          ),
        ),
      ),
    ),
  );
  overtaken_decides = refl;
  abandoned_is_allowed = (_, ((refl, tt), ((refl, tt), ((refl, tt), ((refl, tt), ((refl, tt), ((refl, tt), refl)))))));
  abandoned_decides = refl;
  abandoned_leaves = refl;
  carried_is_allowed =
      (_, ((refl, tt), ((refl, tt), ((refl, tt), ((refl, tt), ((refl, tt), ((refl, tt), ((refl, tt), refl))))))));
  carried_leaves = refl;
  gathered_is_allowed =
      (_, ((refl, tt), ((refl, tt), ((refl, tt), ((refl, tt), ((refl, tt), ((refl, tt), refl)))))));
  gathered_leaves = refl;
  images = record { before_first = refl; at_first = refl; before_second = refl; at_second = refl };
  first_attempt = refl;
  second_attempt = refl;
}
