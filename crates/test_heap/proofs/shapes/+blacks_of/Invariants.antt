use Rattle.test_heap.proofs.shapes.«+blacks_of».Given as goal

abbrev pub decreases-blacks_of : goal.decreases-blacks_of
decreases-blacks_of l = l.fuel
